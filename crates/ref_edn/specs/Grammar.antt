-- Which texts belong to which value: a relation, with one case for each element. Each part says of a text what stands
-- at its front and what is left behind that. The number in it is how many more collections and discards may be open.
use Rattle.std.specs.Prelude.{◌≡◌, ℕ, suc, ◌+◌, ◌*◌, ◌<◌, true, false, List, [], ◌∷◌, ◌++◌, IsTrue, ⊤, cond, ◌==◌, IsUtf8, IsPermutation, FitsSigned, encode_utf8}
use Rattle.std.specs.Int.{w64}
use Rattle.std.specs.Char.{IsScalar, digit_value}
use Rattle.ref_value.specs.Edn.{Edn, nil, boolean, int, string, keyword, symbol, vector, map, set, Items, no_items, item, Entries, no_entries, entry, list_of, pairs_of}
use Rattle.ref_edn.specs.Bytes.{is_space, is_delimiter, is_integer, integer_value}
use Rattle.ref_value.specs.Names.{is_keyword, is_symbol, nil_text, true_text, false_text}
use Rattle.ref_value.specs.Order.{elements_ascend, keys_ascend}
use Rattle.ref_value.specs.Limits.{most_nested}

-- a token, and the value that it writes
pub data Token : List ℕ → Edn → Type 0 where
  nil_token : Token nil_text nil
  true_token : Token true_text (boolean true)
  false_token : Token false_text (boolean false)
  integer_token : {t : List ℕ} → IsTrue (is_integer t) → FitsSigned w64 (integer_value t) → Token t (int (integer_value t))
  keyword_token : {s : List ℕ} → IsTrue (is_keyword s) → Token (58 ∷ s) (keyword s)
  symbol_token : {s : List ℕ} → IsTrue (is_symbol s) → Token s (symbol s)

-- A token runs up to the end or to what ends a token.
abbrev pub Ends : List ℕ → Type 0
Ends [] = ⊤
Ends (b ∷ bs) = IsTrue (is_delimiter b)

abbrev pub Inside : List ℕ → Type 0
Inside [] = ⊤
Inside (b ∷ bs) = (is_delimiter b ≡ false) × Inside bs

-- what a letter behind a backslash stands for: t, r, n, \, ", b, f
pub data Escape : ℕ → ℕ → Type 0 where
  tab : Escape 116 9
  return : Escape 114 13
  newline : Escape 110 10
  backslash : Escape 92 92
  quote : Escape 34 34
  backspace : Escape 98 8
  form_feed : Escape 102 12

-- the character that four hexadecimal digits of either case name; no surrogate is one
pub record NamesChar (h i j k c : ℕ) : Type 0 where
  pub first : digit_value h < 16
  pub second : digit_value i < 16
  pub third : digit_value j < 16
  pub fourth : digit_value k < 16
  pub value : c ≡ ((digit_value h * 16 + digit_value i) * 16 + digit_value j) * 16 + digit_value k
  pub scalar : IsScalar c

-- the rest of a string behind its opening quote, the bytes that it stands for, and what follows its closing quote
pub data Body : List ℕ → List ℕ → List ℕ → Type 0 where
  close : {rest : List ℕ} → Body (34 ∷ rest) [] rest
  plain : {b : ℕ} {text s rest : List ℕ} → (b == 34) ≡ false → (b == 92) ≡ false → Body text s rest → Body (b ∷ text) (b ∷ s) rest
  escape : {e b : ℕ} {text s rest : List ℕ} → Escape e b → Body text s rest → Body (92 ∷ e ∷ text) (b ∷ s) rest
  unicode : {h i j k c : ℕ} {text s rest : List ℕ} → NamesChar h i j k c → Body text s rest → Body (92 ∷ 117 ∷ h ∷ i ∷ j ∷ k ∷ text) (encode_utf8 c ++ s) rest

-- a text from its first newline on
abbrev pub from_newline : List ℕ → List ℕ
from_newline [] = []
from_newline (b ∷ text) = cond (b == 10) (b ∷ text) (from_newline text)

-- what opens a vector, and what closes it then
pub data Brackets : ℕ → ℕ → Type 0 where
  square : Brackets 91 93
  round : Brackets 40 41

-- The same elements in value order, and no two that are equal.
pub record SortsElements (xs ys : Items) : Type 0 where
  pub same : IsPermutation (list_of xs) (list_of ys)
  pub ascend : IsTrue (elements_ascend ys)

pub record SortsEntries (es fs : Entries) : Type 0 where
  pub same : IsPermutation (pairs_of es) (pairs_of fs)
  pub ascend : IsTrue (keys_ascend fs)

mutual
  -- whitespace, comments and discarded elements
  pub data Blank : ℕ → List ℕ → List ℕ → Type 0 where
    nothing : {n : ℕ} {rest : List ℕ} → Blank n rest rest
    space : {n b : ℕ} {text rest : List ℕ} → IsTrue (is_space b) → Blank n text rest → Blank n (b ∷ text) rest
    comment : {n : ℕ} {text after rest : List ℕ} → from_newline text ≡ after → Blank n after rest → Blank n (59 ∷ text) rest
    discard : {n : ℕ} {text start after rest : List ℕ} {x : Edn} → Blank n text start → Element n start x after → Blank (suc n) after rest → Blank (suc n) (35 ∷ 95 ∷ text) rest

  pub data Element : ℕ → List ℕ → Edn → List ℕ → Type 0 where
    token : {n : ℕ} {text word rest : List ℕ} {x : Edn} → Token word x → Inside word → Ends rest → text ≡ word ++ rest → Element n text x rest
    quoted : {n : ℕ} {text s rest : List ℕ} → Body text s rest → Element n (34 ∷ text) (string s) rest
    sequence : {n opening close : ℕ} {text rest : List ℕ} {xs : Items} → Brackets opening close → Elements n close text xs rest → Element (suc n) (opening ∷ text) (vector xs) rest
    mapping : {n : ℕ} {text rest : List ℕ} {es fs : Entries} → Pairs n text es rest → SortsEntries es fs → Element (suc n) (123 ∷ text) (map fs) rest
    collection : {n : ℕ} {text rest : List ℕ} {xs ys : Items} → Elements n 125 text xs rest → SortsElements xs ys → Element (suc n) (35 ∷ 123 ∷ text) (set ys) rest

  -- the elements up to what closes them
  pub data Elements : ℕ → ℕ → List ℕ → Items → List ℕ → Type 0 where
    closed : {n close : ℕ} {text rest : List ℕ} → Blank n text (close ∷ rest) → Elements n close text no_items rest
    more : {n close : ℕ} {text start after rest : List ℕ} {x : Edn} {xs : Items} → Blank n text start → Element n start x after → Elements n close after xs rest → Elements n close text (item x xs) rest

  -- keys and values in turn, up to the bracket that closes a map
  pub data Pairs : ℕ → List ℕ → Entries → List ℕ → Type 0 where
    no_more : {n : ℕ} {text rest : List ℕ} → Blank n text (125 ∷ rest) → Pairs n text no_entries rest
    pair : {n : ℕ} {text start between second after rest : List ℕ} {k x : Edn} {es : Entries} → Blank n text start → Element n start k between → Blank n between second → Element n second x after
        → Pairs n after es rest → Pairs n text (entry k x es) rest

-- The text is one element, with blanks round it.
pub record IsText (text : List ℕ) (x : Edn) : Type 0 where
  pub utf8 : IsUtf8 text
  pub start : List ℕ
  pub after : List ℕ
  pub before : Blank most_nested text start
  pub element : Element most_nested start x after
  pub behind : Blank most_nested after []

-- elements with blanks round them, up to the end
pub data Series : List ℕ → List Edn → Type 0 where
  ended : {text : List ℕ} → Blank most_nested text [] → Series text []
  next : {text start after : List ℕ} {x : Edn} {xs : List Edn} → Blank most_nested text start → Element most_nested start x after → Series after xs → Series text (x ∷ xs)

-- The text is these elements, one after another.
pub record AreTexts (text : List ℕ) (xs : List Edn) : Type 0 where
  pub utf8 : IsUtf8 text
  pub series : Series text xs
