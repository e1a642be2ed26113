-- What belongs to a value, by the grammar, is read as that value.
use Rattle.std.proofs.Common.{◌≡◌, ℕ, zero, suc, ◌<◌, ◌≤◌, Bool, true, false, cond, List, [], ◌∷◌, ◌++◌, length, Some, None, Result, Ok, refl, sym, ap, subst, ◌∙◌, arith, append_assoc}
use Rattle.std.specs.Prelude.{◌==◌, ⊤, IsTrue, IsUtf8}
use Rattle.std.proofs.lemmas.Bool.{eqb-true}
use Rattle.std.proofs.lemmas.Bool.Decides.{nat_tests}
use Rattle.std.proofs.lemmas.Str.{IsUtf8-nil, is_utf8-from_IsUtf8}
use Rattle.ref_edn.specs.declared.faults.Fault.{Fault}
use Rattle.ref_value.specs.Edn.{Edn, string, vector, map, set, Items, no_items, item, Entries, items_of, list_of, pairs_of}
use Rattle.ref_edn.specs.Bytes.{is_space, is_close, is_delimiter}
use Rattle.ref_edn.specs.Grammar.{from_newline, Token, Ends, Inside, Body, Brackets, square, round, SortsElements, SortsEntries, Blank, nothing, space, comment, discard, Element, token, quoted, sequence, mapping, collection, Elements, closed, more, Pairs, no_more, pair, IsText, Series, ended, next, AreTexts}
use Rattle.ref_edn.specs.Faults.{◌>>=◌}
use Rattle.ref_edn.specs.ReadParts.{discarded_at, vector_at, mapping_at, collection_at, single_at, next_step, next_at, value_at, pairs_step, pairs_with}
use Rattle.ref_edn.specs.Reading.{is_discard, skip_with, read_with, value_step, items_with, vector_with, mapping_with, collection_with, skip, read, first, last, checked, one, all_step, all_with, all}
use Rattle.ref_edn.proofs.Tokens.{StartsToken, token_starts, token_again}
use Rattle.ref_edn.proofs.Strings.{string_again, body_utf8}
use Rattle.ref_edn.proofs.Utf8.{utf8_cut, utf8_tail}
use Rattle.ref_edn.proofs.Sorting.{items_sorts_again, pairs_sorts_again}
use Rattle.ref_edn.proofs.Turns.{skip_is, read_is, single_is, discards, vectors, mappings, collections, step, from_newline_shorter}
use Rattle.ref_edn.proofs.CollectionTurns.{items_turn, pairs_turn}
use Rattle.ref_edn.proofs.Unsorted.{set_of_items, map_of_pairs}
use Rattle.ref_edn.proofs.Extents.{blank_shorter, element_shorter}
use Rattle.ref_value.specs.Limits.{most_nested}

-- ---- what stands at the front

-- no blank begins there
abbrev Solid : List ℕ → Type 0
Solid [] = ⊤
Solid (b ∷ text) = (is_space b ≡ false) × ((b == 59) ≡ false) × (is_discard b text ≡ false)

-- what an element begins with
abbrev Begins : List ℕ → Type 0
Begins [] = ⊥
Begins (b ∷ text) = (is_space b ≡ false) × ((b == 59) ≡ false) × (is_discard b text ≡ false) × (is_close b ≡ false)

begins_solid : (text : List ℕ) → Begins text → Solid text
begins_solid [] h = tt
begins_solid (b ∷ text) h = (h.0, h.1, h.2)

undiscarded : (b : ℕ) (text : List ℕ) → (b == 35) ≡ false → is_discard b text ≡ false
undiscarded b [] h = refl
undiscarded b (c ∷ text) h = rw h refl

close_solid : (close : ℕ) (rest : List ℕ) → is_close close ≡ true → Solid (close ∷ rest)
close_solid close rest is = (grind (arith, nat_tests), grind (arith, nat_tests), undiscarded close rest (grind (arith, nat_tests)))

-- what stands there isn't what closes
abbrev Unclosed : ℕ → List ℕ → Type 0
Unclosed close [] = ⊥
Unclosed close (b ∷ text) = (b == close) ≡ false

unlike : (b close : ℕ) → is_close close ≡ true → is_close b ≡ false → (b == close) ≡ false
unlike b close is isnt = by (b == close) refl
  where
    by : (same : Bool) → (b == close) ≡ same → same ≡ false
    by true e = absurd (let f : b ≡ close = eqb-true b close e in let g : true ≡ false = sym is ∙ ap is_close (sym f) ∙ isnt in cc)
    by false e = refl

unclosed : (close : ℕ) (text : List ℕ) → is_close close ≡ true → Begins text → Unclosed close text
unclosed close [] is h = h
unclosed close (b ∷ text) is h = unlike b close is h.3

brackets_close : {opening close : ℕ} → Brackets opening close → is_close close ≡ true
brackets_close square = refl
brackets_close round = refl

opening_begins : {opening close : ℕ} → Brackets opening close → (text : List ℕ) → Begins (opening ∷ text)
opening_begins square text = (refl, refl, undiscarded 91 text refl, refl)
opening_begins round text = (refl, refl, undiscarded 40 text refl, refl)

-- ---- UTF-8 from a place on

small_space : (b : ℕ) → IsTrue (is_space b) → b < 128
small_space b is = grind (arith, nat_tests)

small_delimiter : (b : ℕ) → IsTrue (is_delimiter b) → b < 128
unfolding is_delimiter
small_delimiter b is = grind (arith, nat_tests)

small_close : (b : ℕ) → is_close b ≡ true → b < 128
small_close b is = grind (arith, nat_tests)

small_newline : (b : ℕ) → (b == 10) ≡ true → b < 128
small_newline b is = grind (arith, nat_tests)

bracket_utf8 : {opening close : ℕ} → Brackets opening close → (text : List ℕ) → IsUtf8 (opening ∷ text) → IsUtf8 text
bracket_utf8 square text u = utf8_tail 91 text (omega arith) u
bracket_utf8 round text u = utf8_tail 40 text (omega arith) u

newline_utf8 : (before text : List ℕ) → IsUtf8 (before ++ text) → IsUtf8 (from_newline text)
newline_utf8 before [] u = IsUtf8-nil
newline_utf8 before (b ∷ text) u = by (b == 10) refl (newline_utf8 (before ++ b ∷ []) text (rw append_assoc u))
  where
    by : (is : Bool) → (b == 10) ≡ is → IsUtf8 (from_newline text) → IsUtf8 (cond is (b ∷ text) (from_newline text))
    by true e h = (utf8_cut before b text (small_newline b e) u).1
    by false e h = h

word_utf8 : (word rest : List ℕ) → Ends rest → IsUtf8 (word ++ rest) → IsUtf8 rest
word_utf8 word [] ends u = IsUtf8-nil
word_utf8 word (b ∷ rest) ends u = (utf8_cut word b rest (small_delimiter b ends) u).1

-- ---- tokens and strings

skip_solid : (room turns : ℕ) (text : List ℕ) → Solid text → skip_with (discarded_at room) turns text ≡ Ok text
unfolding skip_with
skip_solid room zero text s = refl
skip_solid room (suc turns) [] s = refl
skip_solid room (suc turns) (b ∷ text) s = rw (s.0, s.1, s.2) refl

token_reads : (room : ℕ) (text word rest : List ℕ) (x : Edn) → Token word x → StartsToken word → Inside word → Ends rest → text ≡ word ++ rest → (read room text ≡ Ok (x, rest)) × Begins text
unfolding single_at
token_reads room text [] rest x t h inside ends e = absurd h
token_reads room text (b ∷ word) rest x t h inside ends e =
    let single : single_at (b ∷ (word ++ rest)) ≡ Ok (x, rest) = rw (h.not_quote, h.starts) (token_again (b ∷ (word ++ rest)) (b ∷ word) rest x t inside ends refl) in
    rw e (single_is room (b ∷ (word ++ rest)) (omega arith) h.not_square h.not_round h.not_curly h.not_hash ∙ single, (h.not_space, h.not_comment, undiscarded b (word ++ rest) h.not_hash, h.not_close))

string_reads : (room : ℕ) (text s rest : List ℕ) → Body text s rest → IsUtf8 (34 ∷ text) → read room (34 ∷ text) ≡ Ok (string s, rest)
unfolding single_at
string_reads room text s rest d u = single_is room (34 ∷ text) (omega arith) refl refl refl refl ∙ string_again u d

-- ---- collections

module _ (room : ℕ) where
  closed_next : (close : ℕ) (text rest : List ℕ) → skip room text ≡ Ok (close ∷ rest) → next_at room close text ≡ Ok (close ∷ rest, None, rest)
  unfolding next_at next_step
  closed_next close text rest e = rw (e, same_byte close) refl
    where
      same_byte : (n : ℕ) → (n == n) ≡ true
      same_byte n = grind (arith, nat_tests)

  element_next : (close : ℕ) (text start after : List ℕ) (x : Edn) → Unclosed close start → skip room text ≡ Ok start → read room start ≡ Ok (x, after) → next_at room close text ≡ Ok (start, Some x, after)
  unfolding next_at next_step
  element_next close text [] after x u e f = absurd u
  element_next close text (b ∷ start) after x u e f = rw (e, u, f) refl

  value_next : (text second after : List ℕ) (x : Edn) → Unclosed 125 second → skip room text ≡ Ok second → read room second ≡ Ok (x, after) → value_at room text ≡ Ok (x, after)
  unfolding value_at value_step
  value_next text [] after x u e f = absurd u
  value_next text (b ∷ second) after x u e f = rw (e, u, f) refl

opens : (room : ℕ) {opening close : ℕ} → Brackets opening close → (text : List ℕ) → read room (opening ∷ text) ≡ vector_at room close (opening ∷ text)
unfolding read_with
opens room square text = read_is room (91 ∷ text)
opens room round text = read_is room (40 ∷ text)

opens_map : (room : ℕ) (text : List ℕ) → read room (123 ∷ text) ≡ mapping_at room (123 ∷ text)
unfolding read_with
opens_map room text = read_is room (123 ∷ text)

opens_collection : (room : ℕ) (text : List ℕ) → read room (35 ∷ 123 ∷ text) ≡ collection_at room (35 ∷ 123 ∷ text)
unfolding read_with
opens_collection room text = read_is room (35 ∷ 123 ∷ text)

list_again : (xs : Items) → items_of (list_of xs) ≡ xs
list_again no_items = refl
list_again (item x xs) = ap (item x) (list_again xs)

vector_reads : (room : ℕ) {opening close : ℕ} → Brackets opening close → (text rest : List ℕ) (xs : Items) → items_with (skip room) (read room) close (length text) text ≡ Ok (list_of xs, rest)
    → read (suc room) (opening ∷ text) ≡ Ok (vector xs, rest)
unfolding vector_with
vector_reads room {opening} {close} b text rest xs e =
    let inside : vector_with (skip room) (read room) close (opening ∷ text) ≡ Ok (vector xs, rest) = rw e (ap (λ (ys : Items). Ok (vector ys, rest)) (list_again xs)) in
    opens (suc room) b text ∙ sym (vectors room close (opening ∷ text)) ∙ inside

set_reads : (room : ℕ) (text rest : List ℕ) (xs ys : Items) → SortsElements xs ys → items_with (skip room) (read room) 125 (length text) text ≡ Ok (list_of xs, rest) → read (suc room) (35 ∷ 123 ∷ text) ≡ Ok (set ys, rest)
unfolding collection_with
set_reads room text rest xs ys s e =
    let p = items_sorts_again xs ys s in
    let f = set_of_items room (length text) [] text (list_of xs, rest) e p.0 in
    let inside : collection_with (skip room) (read room) (35 ∷ 123 ∷ text) ≡ Ok (set ys, rest) = rw f (ap (λ (zs : Items). Ok (set zs, rest)) p.1) in
    opens_collection (suc room) text ∙ sym (collections room (35 ∷ 123 ∷ text)) ∙ inside

map_reads : (room : ℕ) (text rest : List ℕ) (es fs : Entries) → SortsEntries es fs → pairs_with room (length text) text ≡ Ok (pairs_of es, rest) → read (suc room) (123 ∷ text) ≡ Ok (map fs, rest)
unfolding mapping_with
map_reads room text rest es fs s e =
    let p = pairs_sorts_again es fs s in
    let f = map_of_pairs room (length text) [] text (pairs_of es, rest) e p.0 in
    let inside : mapping_with (skip room) (read room) (123 ∷ text) ≡ Ok (map fs, rest) = rw f (ap (λ (gs : Entries). Ok (map gs, rest)) p.1) in
    opens_map (suc room) text ∙ sym (mappings room (123 ∷ text)) ∙ inside

items_closed_again : (room close turns : ℕ) (text rest : List ℕ) → skip room text ≡ Ok (close ∷ rest) → items_with (skip room) (read room) close (suc turns) text ≡ Ok ([], rest)
items_closed_again room close turns text rest e = items_turn room close turns text ∙ rw (closed_next room close text rest e) refl

items_more_again : (room close turns : ℕ) (text start after rest : List ℕ) (x : Edn) (xs : List Edn) → Unclosed close start → skip room text ≡ Ok start → read room start ≡ Ok (x, after)
    → items_with (skip room) (read room) close turns after ≡ Ok (xs, rest) → items_with (skip room) (read room) close (suc turns) text ≡ Ok (x ∷ xs, rest)
items_more_again room close turns text start after rest x xs u e f g = items_turn room close turns text ∙ rw (element_next room close text start after x u e f, g) refl

pairs_closed_again : (room turns : ℕ) (text rest : List ℕ) → skip room text ≡ Ok (125 ∷ rest) → pairs_with room (suc turns) text ≡ Ok ([], rest)
unfolding pairs_step
pairs_closed_again room turns text rest e = pairs_turn room turns text ∙ rw (closed_next room 125 text rest e) refl

pairs_more_again : (room turns : ℕ) (text start between after rest : List ℕ) (k x : Edn) (es : List (Edn × Edn)) → Unclosed 125 start → skip room text ≡ Ok start → read room start ≡ Ok (k, between)
    → value_at room between ≡ Ok (x, after) → pairs_with room turns after ≡ Ok (es, rest) → pairs_with room (suc turns) text ≡ Ok ((k, x) ∷ es, rest)
unfolding pairs_step
pairs_more_again room turns text start between after rest k x es u e f v g = pairs_turn room turns text ∙ rw (element_next room 125 text start between k u e f, v, g) refl

-- ---- derivations

element_begins : {n : ℕ} {text rest : List ℕ} {x : Edn} → Element n text x rest → Begins text
element_begins (token {n} {text} {word} {rest} {x} t inside ends e) = (token_reads n text word rest x t (token_starts t) inside ends e).1
element_begins (quoted {n} {text} d) = (refl, refl, undiscarded 34 text refl, refl)
element_begins (sequence {n} {opening} {close} {text} b d) = opening_begins b text
element_begins (mapping {n} {text} d s) = (refl, refl, undiscarded 123 text refl, refl)
element_begins (collection d s) = (refl, refl, refl, refl)

mutual
  blank_again : {n : ℕ} {text rest : List ℕ} → Blank n text rest → Solid rest → IsUtf8 text → (turns : ℕ) → length text ≤ turns → (skip_with (discarded_at n) turns text ≡ Ok rest) × IsUtf8 rest
  blank_again (nothing {n} {rest}) s u turns h = (skip_solid n turns rest s, u)
  blank_again (space is d) s u zero h = absurd (omega arith)
  blank_again (space {n} {b} {text} {rest} is d) s u (suc turns) h =
      let p = blank_again d s (utf8_tail b text (small_space b is) u) turns (omega arith) in
      (step n turns b text ∙ rw is p.0, p.1)
  blank_again (comment is d) s u zero h = absurd (omega arith)
  blank_again (comment {n} {text} {after} {rest} is d) s u (suc turns) h =
      let shorter : length after ≤ length text = rw (← is) (from_newline_shorter text) in
      let p = blank_again d s (subst IsUtf8 is (newline_utf8 [] text (utf8_tail 59 text (omega arith) u))) turns (omega arith) in
      (step n turns 59 text ∙ rw is p.0, p.1)
  blank_again (discard d e ds) s u zero h = absurd (omega arith)
  blank_again (discard {n} {text} {start} {after} {rest} {x} d e ds) s u (suc turns) h =
      let inside : IsUtf8 text = utf8_tail 95 text (omega arith) (utf8_tail 35 (95 ∷ text) (omega arith) u) in
      let shorter : length after ≤ length text = omega (arith, blank_shorter d, element_shorter e) in
      let b = element_begins e in
      let p = blank_again d (begins_solid start b) inside (length text) (omega arith) in
      let q = element_again e p.1 in
      let r = blank_again ds s q.1 turns (omega arith) in
      let inner : discarded_at (suc n) (35 ∷ 95 ∷ text) ≡ Ok after = sym (discards n (35 ∷ 95 ∷ text)) ∙ rw (skip_is, p.0, q.0) refl in
      (step (suc n) turns 35 (95 ∷ text) ∙ rw inner r.0, r.1)

  element_again : {n : ℕ} {text rest : List ℕ} {x : Edn} → Element n text x rest → IsUtf8 text → (read n text ≡ Ok (x, rest)) × IsUtf8 rest
  element_again (token {n} {text} {word} {rest} {x} t inside ends e) u = ((token_reads n text word rest x t (token_starts t) inside ends e).0, word_utf8 word rest ends (subst IsUtf8 e u))
  element_again (quoted {n} {text} {s} {rest} d) u = (string_reads n text s rest d u, (body_utf8 (utf8_tail 34 text (omega arith) u) d).1)
  element_again (sequence {n} {opening} {close} {text} {rest} {xs} b d) u =
      let p = elements_again (brackets_close b) d (bracket_utf8 b text u) (length text) (omega arith) in
      (vector_reads n b text rest xs p.0, p.1)
  element_again (mapping {n} {text} {rest} {es} {fs} d s) u =
      let p = pairs_again d (utf8_tail 123 text (omega arith) u) (length text) (omega arith) in
      (map_reads n text rest es fs s p.0, p.1)
  element_again (collection {n} {text} {rest} {xs} {ys} d s) u =
      let p = elements_again refl d (utf8_tail 123 text (omega arith) (utf8_tail 35 (123 ∷ text) (omega arith) u)) (length text) (omega arith) in
      (set_reads n text rest xs ys s p.0, p.1)

  elements_again : {n close : ℕ} {text rest : List ℕ} {xs : Items} → is_close close ≡ true → Elements n close text xs rest → IsUtf8 text → (turns : ℕ) → length text ≤ turns
      → (items_with (skip n) (read n) close turns text ≡ Ok (list_of xs, rest)) × IsUtf8 rest
  elements_again is (closed d) u zero h = absurd (let g = blank_shorter d in omega arith)
  elements_again is (closed {n} {close} {text} {rest} d) u (suc turns) h =
      let p = blank_again d (close_solid close rest is) u (length text) (omega arith) in
      (items_closed_again n close turns text rest (skip_is n text ∙ p.0), utf8_tail close rest (small_close close is) p.1)
  elements_again is (more d e ds) u zero h = absurd (let g = blank_shorter d in let i = element_shorter e in omega arith)
  elements_again is (more {n} {close} {text} {start} {after} {rest} {x} {xs} d e ds) u (suc turns) h =
      let b = element_begins e in
      let p = blank_again d (begins_solid start b) u (length text) (omega arith) in
      let q = element_again e p.1 in
      let enough : length after ≤ turns = let g = blank_shorter d in let i = element_shorter e in omega arith in
      let r = elements_again is ds q.1 turns enough in
      (items_more_again n close turns text start after rest x (list_of xs) (unclosed close start is b) (skip_is n text ∙ p.0) q.0 r.0, r.1)

  pairs_again : {n : ℕ} {text rest : List ℕ} {es : Entries} → Pairs n text es rest → IsUtf8 text → (turns : ℕ) → length text ≤ turns → (pairs_with n turns text ≡ Ok (pairs_of es, rest)) × IsUtf8 rest
  pairs_again (no_more d) u zero h = absurd (let g = blank_shorter d in omega arith)
  pairs_again (no_more {n} {text} {rest} d) u (suc turns) h =
      let p = blank_again d (close_solid 125 rest refl) u (length text) (omega arith) in
      (pairs_closed_again n turns text rest (skip_is n text ∙ p.0), utf8_tail 125 rest (omega arith) p.1)
  pairs_again (pair d key e value ds) u zero h = absurd (let g = blank_shorter d in let i = element_shorter key in omega arith)
  pairs_again (pair {n} {text} {start} {between} {second} {after} {rest} {k} {x} {es} d key e value ds) u (suc turns) h =
      let b = element_begins key in
      let p = blank_again d (begins_solid start b) u (length text) (omega arith) in
      let q = element_again key p.1 in
      let c = element_begins value in
      let v = blank_again e (begins_solid second c) q.1 (length between) (omega arith) in
      let w = element_again value v.1 in
      let enough : length after ≤ turns = let g = blank_shorter d in let i = element_shorter key in let j = blank_shorter e in let l = element_shorter value in omega arith in
      let r = pairs_again ds w.1 turns enough in
      let read_value = value_next n between second after x (unclosed 125 second refl c) (skip_is n between ∙ v.0) w.0 in
      (pairs_more_again n turns text start between after rest k x (pairs_of es) (unclosed 125 start refl b) (skip_is n text ∙ p.0) q.0 read_value r.0, r.1)

-- ---- whole texts

first_again : (text : List ℕ) (x : Edn × List ℕ) → Begins text → read most_nested text ≡ Ok x → first text ≡ Ok x
first_again [] x b e = absurd b
first_again (b ∷ text) x h e = e

pub checked_again : {A : Type 0} (text : List ℕ) (r : Result A Fault) → IsUtf8 text → checked text r ≡ r
unfolding checked
checked_again text r u = rw (is_utf8-from_IsUtf8 text u) refl

pub one_again : (text : List ℕ) (x : Edn) → IsText text x → one text ≡ Ok x
unfolding one
one_again text x t =
    let b = element_begins t.element in
    let p = blank_again t.before (begins_solid t.start b) t.utf8 (length text) (omega arith) in
    let q = element_again t.element p.1 in
    let r = blank_again t.behind tt q.1 (length t.after) (omega arith) in
    let read_so : (skip most_nested text >>= λ start. first start >>= λ y. skip most_nested y.1 >>= λ rest. last y.0 rest) ≡ Ok x = rw (skip_is, p.0, first_again t.start (x, t.after) b q.0, skip_is, r.0) refl in
    checked_again text (skip most_nested text >>= λ start. first start >>= λ y. skip most_nested y.1 >>= λ rest. last y.0 rest) t.utf8 ∙ read_so

all_step_again : (inner : List ℕ → Result (List Edn) Fault) (start after : List ℕ) (x : Edn) (xs : List Edn) → Begins start → read most_nested start ≡ Ok (x, after) → inner after ≡ Ok xs → all_step inner start ≡ Ok (x ∷ xs)
all_step_again inner [] after x xs b e f = absurd b
all_step_again inner (c ∷ start) after x xs b e f = rw (e, f) refl

series_again : {text : List ℕ} {xs : List Edn} → Series text xs → IsUtf8 text → (turns : ℕ) → length text ≤ turns → all_with turns text ≡ Ok xs
unfolding all_with
series_again (ended {text} d) u zero h = let p = blank_again d tt u (length text) (omega arith) in rw (skip_is, p.0) refl
series_again (ended {text} d) u (suc turns) h = let p = blank_again d tt u (length text) (omega arith) in rw (skip_is, p.0) refl
series_again (next d e ds) u zero h = absurd (let g = blank_shorter d in let i = element_shorter e in omega arith)
series_again (next {text} {start} {after} {x} {xs} d e ds) u (suc turns) h =
    let b = element_begins e in
    let p = blank_again d (begins_solid start b) u (length text) (omega arith) in
    let q = element_again e p.1 in
    let enough : length after ≤ turns = let g = blank_shorter d in let i = element_shorter e in omega arith in
    rw (skip_is, p.0) (all_step_again (all_with turns) start after x xs b q.0 (series_again ds q.1 turns enough))

pub all_again : (text : List ℕ) (xs : List Edn) → AreTexts text xs → all text ≡ Ok xs
unfolding all
all_again text xs t = checked_again text (all_with (length text) text) t.utf8 ∙ series_again t.series t.utf8 (length text) (omega arith)
