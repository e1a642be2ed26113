-- What is printed of a value is UTF-8.
use Rattle.std.proofs.Common.{◌≡◌, ℕ, zero, suc, ◌<◌, ◌≤◌, true, false, List, [], ◌∷◌, ◌++◌, refl, sym, ap, subst, arith, append_assoc, inl, inr, length, get_or, lit<}
use Rattle.std.specs.Prelude.{◌==◌, nat_lt, IsUtf8, ℤ, pos, negsuc, FitsSigned, encode_utf8}
use Rattle.std.specs.Int.{w64}
use Rattle.std.specs.List.{list_all}
use Rattle.std.specs.Fmt.{signed_decimal}
use Rattle.std.proofs.lemmas.Bool.{cases_lt, and_parts, ltb-true, ne_eqb, and_from, agree_below, agree_below_at}
use Rattle.std.proofs.Math.Utf8.{scalar, scalars, encodes, low_scalar}
use Rattle.std.proofs.lemmas.Fmt.{IsAscii-signed}
use Rattle.std.proofs.lemmas.Str.{IsUtf8-append, IsUtf8-from_ascii, IsUtf8-nil, encode_ascii, inside_one}
use Rattle.std.proofs.lemmas.List.{append-nil}
use Rattle.ref_value.specs.Edn.{Edn, nil, boolean, int, string, keyword, symbol, vector, map, set, Items, no_items, item, Entries, no_entries, entry}
use Rattle.ref_value.specs.Names.{nil_text, true_text, false_text}
use Rattle.ref_value.specs.Lawful.{HasLawfulParts, AreLawful, AreLawfulEntries, IsLawful}
use Rattle.ref_edn.specs.Printed.{escaped_byte, escaped, text, items_text, more_items, entries_text, more_entries, printed}
use Rattle.ref_edn.proofs.PrintedParts.{escaped-append}
use Rattle.ref_edn.proofs.PrintedTokens.{is_ascii_byte, keyword_ascii, symbol_ascii}

-- ---- ASCII in front

byte_then : (b : ℕ) (rest : List ℕ) → b < 128 → IsUtf8 rest → IsUtf8 (b ∷ rest)
byte_then b rest h u = (b ∷ u.0, (and_from (scalar b) (scalars u.0) (low_scalar b (omega arith)) u.1.0, rw (encode_ascii b h) (ap (λ (t : List ℕ). b ∷ t) u.1.1)))

bytes_then : (s rest : List ℕ) → list_all is_ascii_byte s ≡ true → IsUtf8 rest → IsUtf8 (s ++ rest)
bytes_then [] rest h u = u
bytes_then (b ∷ s) rest h u = let p = and_parts (nat_lt b 128) (list_all is_ascii_byte s) h in byte_then b (s ++ rest) (ltb-true b 128 p.0) (bytes_then s rest p.1 u)

-- ---- strings

escaped_table : agree_below (λ b. list_all is_ascii_byte (escaped_byte b)) (λ b. true) 128 ≡ true
escaped_table = refl

escaped_ascii : (b : ℕ) → b < 128 → list_all is_ascii_byte (escaped_byte b) ≡ true
escaped_ascii b h = agree_below_at (λ c. list_all is_ascii_byte (escaped_byte c)) (λ c. true) 128 b escaped_table h

unlike : (b c : ℕ) → c < 128 → 128 ≤ b → (b == c) ≡ false
unlike b c h k = ne_eqb b c (λ e. omega (arith, e))

-- a byte above 127 stands as it is
escaped_high : (b : ℕ) → 128 ≤ b → escaped_byte b ≡ b ∷ []
escaped_high b h =
    rw (unlike b 34 (lit< tt) h, unlike b 92 (lit< tt) h, unlike b 10 (lit< tt) h, unlike b 13 (lit< tt) h, unlike b 9 (lit< tt) h, unlike b 8 (lit< tt) h, unlike b 12 (lit< tt) h) refl

-- and so do all bytes of a character above 127
all_high : (s : List ℕ) → ((k : ℕ) → k < length s → 128 ≤ get_or s k 0) → escaped s ≡ s
all_high [] h = refl
all_high (b ∷ s) h = rw (escaped_high b (h zero (omega arith)), all_high s (λ k l. h (suc k) (omega arith))) refl

high_byte : (c k : ℕ) → 128 ≤ c → k < length (encode_utf8 c) → 128 ≤ get_or (encode_utf8 c) k 0
high_byte c k h l =
    elim (cases_lt (get_or (encode_utf8 c) k 0) 128) [
      | inl p ↦ let e : c ≡ get_or (encode_utf8 c) k 0 = inside_one c [] (encode_utf8 c) k (sym (append-nil (encode_utf8 c))) l p in absurd (omega (arith, e))
      | inr p ↦ p
    ]

char_utf8 : (c : ℕ) → scalar c ≡ true → IsUtf8 (encode_utf8 c)
char_utf8 c h = (c ∷ [], (and_from (scalar c) true h refl, append-nil (encode_utf8 c)))

char_then : (c : ℕ) (rest : List ℕ) → scalar c ≡ true → IsUtf8 rest → IsUtf8 (escaped (encode_utf8 c) ++ rest)
char_then c rest h u =
    elim (cases_lt c 128) [
      | inl p ↦ rw (encode_ascii c p, append-nil (escaped_byte c)) (bytes_then (escaped_byte c) rest (escaped_ascii c p) u)
      | inr p ↦ rw (all_high (encode_utf8 c) (λ k l. high_byte c k p l)) (IsUtf8-append (encode_utf8 c) rest (char_utf8 c h) u)
    ]

chars_then : (cs rest : List ℕ) → scalars cs ≡ true → IsUtf8 rest → IsUtf8 (escaped (encodes cs) ++ rest)
chars_then [] rest h u = u
chars_then (c ∷ cs) rest h u =
    let p = and_parts (scalar c) (scalars cs) h in
    rw (escaped-append, append_assoc (escaped (encode_utf8 c)) (escaped (encodes cs)) rest) (char_then c (escaped (encodes cs) ++ rest) p.0 (chars_then cs rest p.1 u))

escaped_utf8 : (s rest : List ℕ) → IsUtf8 s → IsUtf8 rest → IsUtf8 (escaped s ++ rest)
escaped_utf8 s rest u v = let P : List ℕ → Type 0 = λ t. IsUtf8 (escaped t ++ rest) in subst P u.1.1 (chars_then u.0 rest u.1.0 v)

-- ---- values

int_utf8 : (n : ℤ) → FitsSigned w64 n → IsUtf8 (signed_decimal n)
int_utf8 (pos n) f = IsUtf8-from_ascii (signed_decimal (pos n)) (IsAscii-signed (pos n) (omega arith))
int_utf8 (negsuc n) f = IsUtf8-from_ascii (signed_decimal (negsuc n)) (IsAscii-signed (negsuc n) (omega arith))

mutual
  text_utf8 : (x : Edn) (rest : List ℕ) → HasLawfulParts x → IsUtf8 rest → IsUtf8 (text x rest)
  text_utf8 nil rest p u = bytes_then nil_text rest refl u
  text_utf8 (boolean true) rest p u = bytes_then true_text rest refl u
  text_utf8 (boolean false) rest p u = bytes_then false_text rest refl u
  text_utf8 (int n) rest p u = IsUtf8-append (signed_decimal n) rest (int_utf8 n p) u
  text_utf8 (string s) rest p u = byte_then 34 (escaped s ++ 34 ∷ rest) (lit< tt) (escaped_utf8 s (34 ∷ rest) p (byte_then 34 rest (lit< tt) u))
  text_utf8 (keyword s) rest p u = byte_then 58 (s ++ rest) (lit< tt) (bytes_then s rest (keyword_ascii s p) u)
  text_utf8 (symbol s) rest p u = bytes_then s rest (symbol_ascii s p) u
  text_utf8 (vector xs) rest p u = byte_then 91 (items_text 93 xs rest) (lit< tt) (items_utf8 93 xs rest (lit< tt) p u)
  text_utf8 (map es) rest p u = byte_then 123 (entries_text es rest) (lit< tt) (entries_utf8 es rest p.0 u)
  text_utf8 (set xs) rest p u = bytes_then (35 ∷ 123 ∷ []) (items_text 125 xs rest) refl (items_utf8 125 xs rest (lit< tt) p.0 u)

  items_utf8 : (close : ℕ) (xs : Items) (rest : List ℕ) → close < 128 → AreLawful xs → IsUtf8 rest → IsUtf8 (items_text close xs rest)
  items_utf8 close no_items rest c p u = byte_then close rest c u
  items_utf8 close (item x xs) rest c p u = text_utf8 x (more_items close xs rest) p.0 (more_items_utf8 close xs rest c p.1 u)

  more_items_utf8 : (close : ℕ) (xs : Items) (rest : List ℕ) → close < 128 → AreLawful xs → IsUtf8 rest → IsUtf8 (more_items close xs rest)
  more_items_utf8 close no_items rest c p u = byte_then close rest c u
  more_items_utf8 close (item x xs) rest c p u =
      byte_then 32 (text x (more_items close xs rest)) (lit< tt) (text_utf8 x (more_items close xs rest) p.0 (more_items_utf8 close xs rest c p.1 u))

  entries_utf8 : (es : Entries) (rest : List ℕ) → AreLawfulEntries es → IsUtf8 rest → IsUtf8 (entries_text es rest)
  entries_utf8 no_entries rest p u = byte_then 125 rest (lit< tt) u
  entries_utf8 (entry k x es) rest p u =
      text_utf8 k (32 ∷ text x (more_entries es rest)) p.0 (byte_then 32 (text x (more_entries es rest)) (lit< tt) (text_utf8 x (more_entries es rest) p.1 (more_entries_utf8 es rest p.2 u)))

  more_entries_utf8 : (es : Entries) (rest : List ℕ) → AreLawfulEntries es → IsUtf8 rest → IsUtf8 (more_entries es rest)
  more_entries_utf8 no_entries rest p u = byte_then 125 rest (lit< tt) u
  more_entries_utf8 (entry k x es) rest p u =
      bytes_then (44 ∷ 32 ∷ []) (text k (32 ∷ text x (more_entries es rest))) refl
      (text_utf8 k (32 ∷ text x (more_entries es rest)) p.0 (byte_then 32 (text x (more_entries es rest)) (lit< tt) (text_utf8 x (more_entries es rest) p.1 (more_entries_utf8 es rest p.2 u))))

pub printed_utf8 : (x : Edn) → IsLawful x → IsUtf8 (printed x)
printed_utf8 x l = text_utf8 x [] l.parts IsUtf8-nil
