-- Which texts are names of symbols and of keywords.
use Rattle.std.specs.Prelude.{ℕ, Bool, ◌||◌, ◌&&◌, ◌==◌, List, [], ◌∷◌, not, true, false, codes}
use Rattle.std.specs.List.{list_all, before_first, after_first}
use Rattle.ref_value.specs.Letters.{is_one_of, is_digit, is_letter, begins_with_digit}

-- an ASCII letter, a digit, or one of . * + ! - _ ? $ % & = < > : #
unfoldable pub is_name_byte : ℕ → Bool
is_name_byte b = is_letter b || is_digit b || is_one_of (codes ".*+!-_?$%&=<>:#") b

-- A part begins with no digit, colon or '#', and where it begins with a sign or a dot, no digit follows.
abbrev pub begins_part : List ℕ → Bool
begins_part [] = false
begins_part (b ∷ bs) = not (is_digit b || b == 58 || b == 35) && not (is_one_of (codes "-+.") b && begins_with_digit bs)

abbrev pub is_part : List ℕ → Bool
is_part s = begins_part s && list_all is_name_byte s

abbrev pub is_slash : ℕ → Bool
is_slash b = b == 47

-- one part, or two with one slash between
unfoldable pub is_name : List ℕ → Bool
is_name s = is_part s || (is_part (before_first is_slash s) && is_part (after_first is_slash s))

abbrev pub bytes_eq : List ℕ → List ℕ → Bool
bytes_eq [] [] = true
bytes_eq [] (y ∷ ys) = false
bytes_eq (x ∷ xs) [] = false
bytes_eq (x ∷ xs) (y ∷ ys) = (x == y) && bytes_eq xs ys

abbrev pub nil_text : List ℕ
nil_text = codes "nil"

abbrev pub true_text : List ℕ
true_text = codes "true"

abbrev pub false_text : List ℕ
false_text = codes "false"

-- the words that are values of their own
abbrev pub is_word : List ℕ → Bool
is_word s = bytes_eq s nil_text || bytes_eq s true_text || bytes_eq s false_text

-- what may stand behind the colon of a keyword
abbrev pub is_keyword : List ℕ → Bool
is_keyword s = is_name s

-- a name that is no word, or a lone slash
abbrev pub is_symbol : List ℕ → Bool
is_symbol s = (is_name s && not (is_word s)) || bytes_eq s (codes "/")
