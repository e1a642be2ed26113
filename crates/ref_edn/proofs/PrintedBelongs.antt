-- What is printed of a value belongs to that value.
use Rattle.std.proofs.Common.{◌≡◌, ℕ, zero, suc, ◌≤◌, true, false, cond, List, [], ◌∷◌, ◌++◌, refl, arith, IsTrue, append_assoc, inl, inr}
use Rattle.std.specs.Prelude.{◌==◌}
use Rattle.std.proofs.lemmas.Bool.{cases_Bool, eqb-true}
use Rattle.std.proofs.lemmas.List.Sorted.{IsPermutation-refl}
use Rattle.ref_value.specs.Edn.{Edn, nil, boolean, int, string, keyword, symbol, vector, map, set, Items, no_items, item, Entries, no_entries, entry, nesting, items_depth, entries_depth, list_of, pairs_of}
use Rattle.ref_edn.specs.Bytes.{is_delimiter}
use Rattle.ref_value.specs.Names.{nil_text, true_text, false_text}
use Rattle.ref_value.specs.Lawful.{HasLawfulParts, AreLawful, AreLawfulEntries, IsLawful}
use Rattle.ref_edn.specs.Grammar.{nil_token, true_token, false_token, keyword_token, symbol_token, Ends, Inside, Escape, tab, return, newline, backslash, quote, backspace, form_feed, Body, close, plain, escape, square, nothing, space, Element, token, quoted, sequence, mapping, collection, Elements, closed, more, Pairs, no_more, pair, IsText}
use Rattle.ref_edn.specs.Printed.{escaped_byte, escaped, text, items_text, more_items, entries_text, more_entries, printed}
use Rattle.ref_edn.proofs.PrintedTokens.{int_token, int_inside, keyword_inside, symbol_inside}
use Rattle.ref_edn.proofs.PrintedUtf8.{printed_utf8}

-- ---- strings

-- one test of those that choose a byte's escape
one_escape : (b c e : ℕ) (other t s rest : List ℕ) → Escape e c → Body t s rest → ((b == c) ≡ false → Body (other ++ t) (b ∷ s) rest) → Body (cond (b == c) (92 ∷ e ∷ []) other ++ t) (b ∷ s) rest
one_escape b c e other t s rest h k l = elim (cases_Bool (b == c)) [ inl p ↦ rw (p, eqb-true b c p) (escape h k) | inr p ↦ rw p (l p) ]

byte_body : (b : ℕ) (t s rest : List ℕ) → Body t s rest → Body (escaped_byte b ++ t) (b ∷ s) rest
byte_body b t s rest h =
    one_escape b 34 34 _ t s rest quote h
    (λ p. one_escape b 92 92 _ t s rest backslash h
    (λ q. one_escape b 10 110 _ t s rest newline h
    (λ _. one_escape b 13 114 _ t s rest return h
    (λ _. one_escape b 9 116 _ t s rest tab h (λ _. one_escape b 8 98 _ t s rest backspace h (λ _. one_escape b 12 102 _ t s rest form_feed h (λ _. plain p q h)))))))

body_of : (s rest : List ℕ) → Body (escaped s ++ 34 ∷ rest) s rest
body_of [] rest = close
body_of (b ∷ s) rest = rw (append_assoc (escaped_byte b) (escaped s) (34 ∷ rest)) (byte_body b (escaped s ++ 34 ∷ rest) s rest (body_of s rest))

-- ---- what ends a token

words_inside : Inside nil_text × Inside true_text × Inside false_text
unfolding is_delimiter
words_inside = ((refl, (refl, (refl, tt))), (refl, (refl, (refl, (refl, tt)))), (refl, (refl, (refl, (refl, (refl, tt))))))

space_ends : IsTrue (is_delimiter 32)
unfolding is_delimiter
space_ends = refl

comma_ends : IsTrue (is_delimiter 44)
unfolding is_delimiter
comma_ends = refl

square_ends : IsTrue (is_delimiter 93)
unfolding is_delimiter
square_ends = refl

brace_ends : IsTrue (is_delimiter 125)
unfolding is_delimiter
brace_ends = refl

items_end : (ending : ℕ) (xs : Items) (rest : List ℕ) → IsTrue (is_delimiter ending) → Ends (more_items ending xs rest)
items_end ending no_items rest c = c
items_end ending (item x xs) rest c = space_ends

entries_end : (es : Entries) (rest : List ℕ) → Ends (more_entries es rest)
entries_end no_entries rest = brace_ends
entries_end (entry k x es) rest = comma_ends

-- ---- elements

mutual
  element_of : (x : Edn) (n : ℕ) (rest : List ℕ) → HasLawfulParts x → nesting x ≤ n → Ends rest → Element n (text x rest) x rest
  element_of nil n rest p h e = token nil_token words_inside.0 e refl
  element_of (boolean true) n rest p h e = token true_token words_inside.1 e refl
  element_of (boolean false) n rest p h e = token false_token words_inside.2 e refl
  element_of (int i) n rest p h e = token (int_token i p) (int_inside i p) e refl
  element_of (string s) n rest p h e = quoted (body_of s rest)
  element_of (keyword s) n rest p h e = token (keyword_token p) (keyword_inside s p) e refl
  element_of (symbol s) n rest p h e = token (symbol_token p) (symbol_inside s p) e refl
  element_of (vector xs) zero rest p h e = absurd (omega arith)
  element_of (vector xs) (suc n) rest p h e = sequence square (elements_belong 93 xs n rest square_ends p (omega arith))
  element_of (map es) zero rest p h e = absurd (omega arith)
  element_of (map es) (suc n) rest p h e = mapping (entries_belong es n rest p.0 (omega arith)) (record { same = IsPermutation-refl (pairs_of es); ascend = p.1 })
  element_of (set xs) zero rest p h e = absurd (omega arith)
  element_of (set xs) (suc n) rest p h e = collection (elements_belong 125 xs n rest brace_ends p.0 (omega arith)) (record { same = IsPermutation-refl (list_of xs); ascend = p.1 })

  elements_belong : (ending : ℕ) (xs : Items) (n : ℕ) (rest : List ℕ) → IsTrue (is_delimiter ending) → AreLawful xs → items_depth xs ≤ n → Elements n ending (items_text ending xs rest) xs rest
  elements_belong ending no_items n rest c p h = closed nothing
  elements_belong ending (item x xs) n rest c p h = more nothing (element_of x n (more_items ending xs rest) p.0 (omega arith) (items_end ending xs rest c)) (others_belong ending xs n rest c p.1 (omega arith))

  others_belong : (ending : ℕ) (xs : Items) (n : ℕ) (rest : List ℕ) → IsTrue (is_delimiter ending) → AreLawful xs → items_depth xs ≤ n → Elements n ending (more_items ending xs rest) xs rest
  others_belong ending no_items n rest c p h = closed nothing
  others_belong ending (item x xs) n rest c p h =
      more (space refl nothing) (element_of x n (more_items ending xs rest) p.0 (omega arith) (items_end ending xs rest c)) (others_belong ending xs n rest c p.1 (omega arith))

  entries_belong : (es : Entries) (n : ℕ) (rest : List ℕ) → AreLawfulEntries es → entries_depth es ≤ n → Pairs n (entries_text es rest) es rest
  entries_belong no_entries n rest p h = no_more nothing
  entries_belong (entry k x es) n rest p h =
      pair nothing (element_of k n (32 ∷ text x (more_entries es rest)) p.0 (omega arith) space_ends) (space refl nothing)
      (element_of x n (more_entries es rest) p.1 (omega arith) (entries_end es rest)) (others_pair es n rest p.2 (omega arith))

  others_pair : (es : Entries) (n : ℕ) (rest : List ℕ) → AreLawfulEntries es → entries_depth es ≤ n → Pairs n (more_entries es rest) es rest
  others_pair no_entries n rest p h = no_more nothing
  others_pair (entry k x es) n rest p h =
      pair (space refl (space refl nothing)) (element_of k n (32 ∷ text x (more_entries es rest)) p.0 (omega arith) space_ends) (space refl nothing)
      (element_of x n (more_entries es rest) p.1 (omega arith) (entries_end es rest)) (others_pair es n rest p.2 (omega arith))

pub printed_belongs : (x : Edn) → IsLawful x → IsText (printed x) x
printed_belongs x l = record { utf8 = printed_utf8 x l; start = printed x; after = []; before = nothing; element = element_of x 64 [] l.parts l.shallow tt; behind = nothing }
