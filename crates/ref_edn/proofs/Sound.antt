-- What is read belongs to its value, by the grammar.
use Rattle.std.proofs.Common.{◌≡◌, ℕ, zero, suc, ◌<◌, ◌≤◌, Bool, true, false, cond, List, [], ◌∷◌, length, drop, Option, Some, None, Result, Ok, refl, sym, ap, subst, ◌∙◌, arith, inl, inr}
use Rattle.std.specs.Prelude.{◌==◌, ◌&&◌, ◌||◌, IsUtf8}
use Rattle.std.specs.Str.{is_utf8}
use Rattle.std.specs.Str.Lossy.{utf8_valid_len}
use Rattle.std.proofs.lemmas.Bool.{eqb-true}
use Rattle.std.proofs.lemmas.Str.{IsUtf8-from_is_utf8}
use Rattle.ref_edn.specs.declared.faults.Fault.{Fault}
use Rattle.ref_edn.specs.declared.faults.Flaw.TheVariants.{EndsEarly, BadByte, WrongClose, OddMap, TooDeep, LeftOut, NotUtf8}
use Rattle.ref_value.specs.Edn.{Edn, vector, map, set, items_of, entries_of}
use Rattle.ref_edn.specs.Bytes.{is_space, is_close}
use Rattle.ref_edn.specs.Grammar.{from_newline, Brackets, square, round, SortsElements, SortsEntries, Blank, nothing, space, comment, discard, Element, sequence, mapping, collection, Elements, closed, more, Pairs, no_more, pair, IsText, Series, ended, next, AreTexts}
use Rattle.ref_edn.specs.Faults.{◌>>=◌, fault}
use Rattle.ref_edn.specs.ReadTokens.{starts_token, token_at, string_at}
use Rattle.ref_edn.specs.ReadParts.{single_at, next_step, next_at, value_at, pairs_step, pairs_with}
use Rattle.ref_edn.specs.Reading.{is_discard, opens_set, skip_with, read_with, value_step, items_with, set_with, map_with, vector_with, mapping_with, collection_with, skip, read, first, last, checked, one, all_step, all_with, all}
use Rattle.ref_edn.proofs.Outcomes.{chosen, ok_is, fault_isnt_ok, bind_ok}
use Rattle.ref_edn.proofs.Tokens.{token_takes}
use Rattle.ref_edn.proofs.Strings.{string_takes}
use Rattle.ref_edn.proofs.Sorting.{sorts_of, entries_sorts_of}
use Rattle.ref_edn.proofs.CollectionTurns.{Next, items_after, items_turn, items_last, pairs_turn, pairs_last}
use Rattle.ref_edn.proofs.Unsorted.{items_of_set, pairs_of_map}
use Rattle.ref_edn.proofs.Extents.{blank_shorter, element_shorter}
use Rattle.ref_value.specs.Limits.{most_nested}

both_true : (a b : Bool) → (a && b) ≡ true → (a ≡ true) × (b ≡ true)
both_true true true e = (refl, refl)
both_true true false e = absurd cc
both_true false b e = absurd cc

-- ---- blanks

-- what a step that reads discards has to show
abbrev Discards : ℕ → (List ℕ → Result (List ℕ) Fault) → Type 0
Discards room inner = (text after rest : List ℕ) → inner (35 ∷ 95 ∷ text) ≡ Ok after → Blank room after rest → Blank room (35 ∷ 95 ∷ text) rest

discard_front : (room b : ℕ) (inner : List ℕ → Result (List ℕ) Fault) (text after rest : List ℕ) → Discards room inner → is_discard b text ≡ true → inner (b ∷ text) ≡ Ok after → Blank room after rest → Blank room (b ∷ text) rest
discard_front room b inner [] after rest how is e behind = absurd cc
discard_front room b inner (c ∷ text) after rest how is e behind =
    let p : ((b == 35) ≡ true) × ((c == 95) ≡ true) = both_true (b == 35) (c == 95) is in
    let front : b ∷ c ∷ text ≡ 35 ∷ 95 ∷ text = λ i. eqb-true b 35 p.0 i ∷ eqb-true c 95 p.1 i ∷ text in
    subst (λ (t : List ℕ). Blank room t rest) (sym front) (how text after rest (ap inner (sym front) ∙ e) behind)

comment_front : (room b : ℕ) (text rest : List ℕ) → (b == 59) ≡ true → Blank room (from_newline text) rest → Blank room (b ∷ text) rest
comment_front room b text rest is behind = subst (λ (c : ℕ). Blank room (c ∷ text) rest) (sym (eqb-true b 59 is)) (comment refl behind)

skip_with_takes : (room : ℕ) (inner : List ℕ → Result (List ℕ) Fault) → Discards room inner → (turns : ℕ) (text rest : List ℕ) → skip_with inner turns text ≡ Ok rest → Blank room text rest
unfolding skip_with
skip_with_takes room inner how zero text rest e = subst (Blank room text) (ok_is text rest e) nothing
skip_with_takes room inner how (suc turns) [] rest e = subst (Blank room []) (ok_is [] rest e) nothing
skip_with_takes room inner how (suc turns) (b ∷ text) rest e =
    elim (chosen (is_space b) (skip_with inner turns text) (cond (b == 59) (skip_with inner turns (from_newline text)) (cond (is_discard b text) (inner (b ∷ text) >>= λ after. skip_with inner turns after) (Ok (b ∷ text)))) (Ok rest) e) [
      | inl p ↦ space p.0 (skip_with_takes room inner how turns text rest p.1)
      | inr p ↦ elim (chosen (b == 59) (skip_with inner turns (from_newline text)) (cond (is_discard b text) (inner (b ∷ text) >>= λ after. skip_with inner turns after) (Ok (b ∷ text))) (Ok rest) p.1) [
        | inl q ↦ comment_front room b text rest q.0 (skip_with_takes room inner how turns (from_newline text) rest q.1)
        | inr q ↦ elim (chosen (is_discard b text) (inner (b ∷ text) >>= λ after. skip_with inner turns after) (Ok (b ∷ text)) (Ok rest) q.1) [
          | inl r ↦ let s = bind_ok (inner (b ∷ text)) (λ after. skip_with inner turns after) rest r.1 in
              discard_front room b inner text s.0 rest how r.0 s.1 (skip_with_takes room inner how turns s.0 rest s.2)
          | inr r ↦ subst (Blank room (b ∷ text)) (ok_is (b ∷ text) rest r.1) nothing
        ]
      ]
    ]

-- ---- an element by what it begins with

single_takes : (room : ℕ) (text : List ℕ) (x : Edn × List ℕ) → single_at text ≡ Ok x → Element room text x.0 x.1
unfolding single_at
single_takes room [] x e = absurd cc
single_takes room (b ∷ text) x e =
    elim (chosen (b == 34) (string_at (b ∷ text)) (cond (starts_token b) (token_at (b ∷ text)) (cond (is_close b) (fault WrongClose (b ∷ text)) (cond (b == 35 || b == 92) (fault LeftOut (b ∷ text)) (fault BadByte (b ∷ text))))) (Ok x) e) [
      | inl p ↦
          let f : b ∷ text ≡ 34 ∷ text = λ i. eqb-true b 34 p.0 i ∷ text in
          subst (λ (t : List ℕ). Element room t x.0 x.1) (sym f) (string_takes room text x (ap string_at (sym f) ∙ p.1))
      | inr p ↦ elim (chosen (starts_token b) (token_at (b ∷ text)) (cond (is_close b) (fault WrongClose (b ∷ text)) (cond (b == 35 || b == 92) (fault LeftOut (b ∷ text)) (fault BadByte (b ∷ text)))) (Ok x) p.1) [
        | inl q ↦ token_takes room (b ∷ text) x q.1
        | inr q ↦ elim (chosen (is_close b) (fault WrongClose (b ∷ text)) (cond (b == 35 || b == 92) (fault LeftOut (b ∷ text)) (fault BadByte (b ∷ text))) (Ok x) q.1) [
          | inl r ↦ fault_isnt_ok WrongClose (b ∷ text) x r.1
          | inr r ↦ elim (chosen (b == 35 || b == 92) (fault LeftOut (b ∷ text)) (fault BadByte (b ∷ text)) (Ok x) r.1) [
            | inl s ↦ fault_isnt_ok LeftOut (b ∷ text) x s.1
            | inr s ↦ fault_isnt_ok BadByte (b ∷ text) x s.1
          ]
        ]
      ]
    ]

-- what the readers of collections have to show
record Collects (room : ℕ) (vectors : ℕ → List ℕ → Result (Edn × List ℕ) Fault) (maps sets : List ℕ → Result (Edn × List ℕ) Fault) : Type 0 where
  for_vectors : (opening close : ℕ) (text : List ℕ) (x : Edn × List ℕ) → Brackets opening close → vectors close (opening ∷ text) ≡ Ok x → Element room (opening ∷ text) x.0 x.1
  for_maps : (text : List ℕ) (x : Edn × List ℕ) → maps (123 ∷ text) ≡ Ok x → Element room (123 ∷ text) x.0 x.1
  for_sets : (text : List ℕ) (x : Edn × List ℕ) → sets (35 ∷ 123 ∷ text) ≡ Ok x → Element room (35 ∷ 123 ∷ text) x.0 x.1

set_front : (room b : ℕ) (inner : List ℕ → Result (Edn × List ℕ) Fault) (text : List ℕ) (x : Edn × List ℕ) → ((t : List ℕ) → inner (35 ∷ 123 ∷ t) ≡ Ok x → Element room (35 ∷ 123 ∷ t) x.0 x.1) → opens_set b text ≡ true
    → inner (b ∷ text) ≡ Ok x → Element room (b ∷ text) x.0 x.1
set_front room b inner [] x how is e = absurd cc
set_front room b inner (c ∷ text) x how is e =
    let p : ((b == 35) ≡ true) × ((c == 123) ≡ true) = both_true (b == 35) (c == 123) is in
    let front : b ∷ c ∷ text ≡ 35 ∷ 123 ∷ text = λ i. eqb-true b 35 p.0 i ∷ eqb-true c 123 p.1 i ∷ text in
    subst (λ (t : List ℕ). Element room t x.0 x.1) (sym front) (how text (ap inner (sym front) ∙ e))

module _ (room : ℕ) (vectors : ℕ → List ℕ → Result (Edn × List ℕ) Fault) (maps sets : List ℕ → Result (Edn × List ℕ) Fault) where
  read_with_is : (b : ℕ) (text : List ℕ)
      → read_with vectors maps sets (b ∷ text)
      ≡ cond (b == 91) (vectors 93 (b ∷ text)) (cond (b == 40) (vectors 41 (b ∷ text)) (cond (b == 123) (maps (b ∷ text)) (cond (opens_set b text) (sets (b ∷ text)) (single_at (b ∷ text)))))
  unfolding read_with single_at
  read_with_is b text = refl

  read_with_takes : Collects room vectors maps sets → (text : List ℕ) (x : Edn × List ℕ) → read_with vectors maps sets text ≡ Ok x → Element room text x.0 x.1
  unfolding read_with
  read_with_takes how [] x e = absurd cc
  read_with_takes how (b ∷ text) x e =
      elim (chosen (b == 91) (vectors 93 (b ∷ text)) (cond (b == 40) (vectors 41 (b ∷ text)) (cond (b == 123) (maps (b ∷ text)) (cond (opens_set b text) (sets (b ∷ text)) (single_at (b ∷ text))))) (Ok x) (sym (read_with_is b text) ∙ e)) [
        | inl p ↦ let f : b ∷ text ≡ 91 ∷ text = λ i. eqb-true b 91 p.0 i ∷ text in subst (λ (t : List ℕ). Element room t x.0 x.1) (sym f) (how.for_vectors 91 93 text x square (ap (vectors 93) (sym f) ∙ p.1))
        | inr p ↦ elim (chosen (b == 40) (vectors 41 (b ∷ text)) (cond (b == 123) (maps (b ∷ text)) (cond (opens_set b text) (sets (b ∷ text)) (single_at (b ∷ text)))) (Ok x) p.1) [
          | inl q ↦ let f : b ∷ text ≡ 40 ∷ text = λ i. eqb-true b 40 q.0 i ∷ text in subst (λ (t : List ℕ). Element room t x.0 x.1) (sym f) (how.for_vectors 40 41 text x round (ap (vectors 41) (sym f) ∙ q.1))
          | inr q ↦ elim (chosen (b == 123) (maps (b ∷ text)) (cond (opens_set b text) (sets (b ∷ text)) (single_at (b ∷ text))) (Ok x) q.1) [
            | inl r ↦ let f : b ∷ text ≡ 123 ∷ text = λ i. eqb-true b 123 r.0 i ∷ text in subst (λ (t : List ℕ). Element room t x.0 x.1) (sym f) (how.for_maps text x (ap maps (sym f) ∙ r.1))
            | inr r ↦ elim (chosen (opens_set b text) (sets (b ∷ text)) (single_at (b ∷ text)) (Ok x) r.1) [
              | inl s ↦ set_front room b sets text x (λ t h. how.for_sets t x h) s.0 s.1
              | inr s ↦ single_takes room (b ∷ text) x s.1
            ]
          ]
        ]
      ]

-- ---- what stands inside a collection

module _ (room : ℕ) (skip_takes : (text rest : List ℕ) → skip room text ≡ Ok rest → Blank room text rest) (read_takes : (text : List ℕ) (x : Edn × List ℕ) → read room text ≡ Ok x → Element room text x.0 x.1) where
  -- the closing bracket, or an element
  abbrev IsNext : ℕ → List ℕ → Option Edn → List ℕ → Type 0
  IsNext close text None behind = Blank room text (close ∷ behind)
  IsNext close text (Some x) behind = (start : List ℕ) × Blank room text start × Element room start x behind

  next_step_takes : (close : ℕ) (text start : List ℕ) (m : Next) → Blank room text start → next_step room close start ≡ Ok m → IsNext close text m.1 m.2
  unfolding next_step
  next_step_takes close text [] m before e = absurd cc
  next_step_takes close text (b ∷ start) m before e =
      let ended : Next = (b ∷ start, None, start) in
      elim (chosen (b == close) (Ok ended) (read room (b ∷ start) >>= λ x. Ok (b ∷ start, Some x.0, x.1)) (Ok m) e) [
        | inl p ↦ subst (λ (n : Next). IsNext close text n.1 n.2) (ok_is ended m p.1) (subst (λ (c : ℕ). Blank room text (c ∷ start)) (eqb-true b close p.0) before)
        | inr p ↦
            let x = bind_ok (read room (b ∷ start)) (λ x. Ok (b ∷ start, Some x.0, x.1)) m p.1 in
            let found : Next = (b ∷ start, Some x.0.0, x.0.1) in
            subst (λ (n : Next). IsNext close text n.1 n.2) (ok_is found m x.2) (b ∷ start, before, read_takes (b ∷ start) x.0 x.1)
      ]

  next_takes : (close : ℕ) (text : List ℕ) (m : Next) → next_at room close text ≡ Ok m → IsNext close text m.1 m.2
  unfolding next_at
  next_takes close text m e =
      let s = bind_ok (skip room text) (λ start. next_step room close start) m e in
      next_step_takes close text s.0 m (skip_takes text s.0 s.1) s.2

  items_after_take : (inner : List ℕ → Result (List Edn × List ℕ) Fault) (close : ℕ) → ((text : List ℕ) (x : List Edn × List ℕ) → inner text ≡ Ok x → Elements room close text (items_of x.0) x.1)
      → (text : List ℕ) (o : Option Edn) (behind : List ℕ) (x : List Edn × List ℕ) → IsNext close text o behind → items_after inner o behind ≡ Ok x → Elements room close text (items_of x.0) x.1
  items_after_take inner close how text None behind x is e = subst (λ (y : List Edn × List ℕ). Elements room close text (items_of y.0) y.1) (ok_is {E = Fault} ([], behind) x e) (closed is)
  items_after_take inner close how text (Some y) behind x is e =
      let ys = bind_ok (inner behind) (λ ys. Ok (y ∷ ys.0, ys.1)) x e in
      subst (λ (z : List Edn × List ℕ). Elements room close text (items_of z.0) z.1) (ok_is {E = Fault} (y ∷ ys.0.0, ys.0.1) x ys.2) (more is.1 is.2 (how behind ys.0 ys.1))

  pub items_take : (turns close : ℕ) (text : List ℕ) (x : List Edn × List ℕ) → items_with (skip room) (read room) close turns text ≡ Ok x → Elements room close text (items_of x.0) x.1
  items_take zero close text x e =
      let m = bind_ok (next_at room close text) (λ m. items_after (λ at. fault EndsEarly []) m.1 m.2) x (sym (items_last room close text) ∙ e) in
      items_after_take (λ at. fault EndsEarly []) close (λ at y h. fault_isnt_ok EndsEarly [] y h) text m.0.1 m.0.2 x (next_takes close text m.0 m.1) m.2
  items_take (suc turns) close text x e =
      let m = bind_ok (next_at room close text) (λ m. items_after (items_with (skip room) (read room) close turns) m.1 m.2) x (sym (items_turn room close turns text) ∙ e) in
      items_after_take (items_with (skip room) (read room) close turns) close (items_take turns close) text m.0.1 m.0.2 x (next_takes close text m.0 m.1) m.2

  -- blanks, and an element
  abbrev IsAfterBlanks : List ℕ → Edn × List ℕ → Type 0
  IsAfterBlanks text x = (start : List ℕ) × Blank room text start × Element room start x.0 x.1

  value_step_takes : (second : List ℕ) (x : Edn × List ℕ) → value_step (skip room) (read room) second ≡ Ok x → Element room second x.0 x.1
  unfolding value_step
  value_step_takes [] x e = absurd cc
  value_step_takes (b ∷ second) x e =
      elim (chosen (b == 125) (fault OddMap (b ∷ second)) (read room (b ∷ second)) (Ok x) e) [ inl p ↦ fault_isnt_ok OddMap (b ∷ second) x p.1 | inr p ↦ read_takes (b ∷ second) x p.1 ]

  value_takes : (text : List ℕ) (x : Edn × List ℕ) → value_at room text ≡ Ok x → IsAfterBlanks text x
  unfolding value_at
  value_takes text x e =
      let s = bind_ok (skip room text) (λ second. value_step (skip room) (read room) second) x e in
      (s.0, skip_takes text s.0 s.1, value_step_takes s.0 x s.2)

  pairs_step_takes : (inner : List ℕ → Result (List (Edn × Edn) × List ℕ) Fault) → ((text : List ℕ) (x : List (Edn × Edn) × List ℕ) → inner text ≡ Ok x → Pairs room text (entries_of x.0) x.1)
      → (text : List ℕ) (o : Option Edn) (behind : List ℕ) (x : List (Edn × Edn) × List ℕ) → IsNext 125 text o behind → pairs_step room inner o behind ≡ Ok x → Pairs room text (entries_of x.0) x.1
  unfolding pairs_step
  pairs_step_takes inner how text None behind x is e = subst (λ (y : List (Edn × Edn) × List ℕ). Pairs room text (entries_of y.0) y.1) (ok_is {E = Fault} ([], behind) x e) (no_more is)
  pairs_step_takes inner how text (Some k) behind x is e =
      let v = bind_ok (value_at room behind) (λ v. inner v.1 >>= λ es. Ok ((k, v.0) ∷ es.0, es.1)) x e in
      let es = bind_ok (inner v.0.1) (λ es. Ok ((k, v.0.0) ∷ es.0, es.1)) x v.2 in
      let a = value_takes behind v.0 v.1 in
      subst (λ (z : List (Edn × Edn) × List ℕ). Pairs room text (entries_of z.0) z.1) (ok_is {E = Fault} ((k, v.0.0) ∷ es.0.0, es.0.1) x es.2) (pair is.1 is.2 a.1 a.2 (how v.0.1 es.0 es.1))

  pub pairs_take : (turns : ℕ) (text : List ℕ) (x : List (Edn × Edn) × List ℕ) → pairs_with room turns text ≡ Ok x → Pairs room text (entries_of x.0) x.1
  pairs_take zero text x e =
      let m = bind_ok (next_at room 125 text) (λ m. pairs_step room (λ at. fault EndsEarly []) m.1 m.2) x (sym (pairs_last room text) ∙ e) in
      pairs_step_takes (λ at. fault EndsEarly []) (λ at y h. fault_isnt_ok EndsEarly [] y h) text m.0.1 m.0.2 x (next_takes 125 text m.0 m.1) m.2
  pairs_take (suc turns) text x e =
      let m = bind_ok (next_at room 125 text) (λ m. pairs_step room (pairs_with room turns) m.1 m.2) x (sym (pairs_turn room turns text) ∙ e) in
      pairs_step_takes (pairs_with room turns) (pairs_take turns) text m.0.1 m.0.2 x (next_takes 125 text m.0 m.1) m.2

  -- ---- whole collections

  vector_takes : (opening close : ℕ) (text : List ℕ) (x : Edn × List ℕ) → Brackets opening close → vector_with (skip room) (read room) close (opening ∷ text) ≡ Ok x → Element (suc room) (opening ∷ text) x.0 x.1
  unfolding vector_with
  vector_takes opening close text x h e =
      let xs = bind_ok (items_with (skip room) (read room) close (length text) text) (λ xs. Ok (vector (items_of xs.0), xs.1)) x e in
      subst (λ (z : Edn × List ℕ). Element (suc room) (opening ∷ text) z.0 z.1) (ok_is {E = Fault} (vector (items_of xs.0.0), xs.0.1) x xs.2) (sequence h (items_take (length text) close text xs.0 xs.1))

  mapping_takes : (text : List ℕ) (x : Edn × List ℕ) → mapping_with (skip room) (read room) (123 ∷ text) ≡ Ok x → Element (suc room) (123 ∷ text) x.0 x.1
  unfolding mapping_with
  mapping_takes text x e =
      let fs = bind_ok (map_with (skip room) (read room) (length text) [] text) (λ fs. Ok (map (entries_of fs.0), fs.1)) x e in
      let es = pairs_of_map room (length text) [] text fs.0 fs.1 in
      let sorts : SortsEntries (entries_of es.0) (entries_of fs.0.0) = subst (λ (gs : List (Edn × Edn)). SortsEntries (entries_of es.0) (entries_of gs)) es.3 (entries_sorts_of es.0 es.2) in
      subst (λ (z : Edn × List ℕ). Element (suc room) (123 ∷ text) z.0 z.1) (ok_is {E = Fault} (map (entries_of fs.0.0), fs.0.1) x fs.2) (mapping (pairs_take (length text) text (es.0, fs.0.1) es.1) sorts)

  collection_takes : (text : List ℕ) (x : Edn × List ℕ) → collection_with (skip room) (read room) (35 ∷ 123 ∷ text) ≡ Ok x → Element (suc room) (35 ∷ 123 ∷ text) x.0 x.1
  unfolding collection_with
  collection_takes text x e =
      let ys = bind_ok (set_with (skip room) (read room) (length text) [] text) (λ ys. Ok (set (items_of ys.0), ys.1)) x e in
      let xs = items_of_set room (length text) [] text ys.0 ys.1 in
      let sorts : SortsElements (items_of xs.0) (items_of ys.0.0) = subst (λ (zs : List Edn). SortsElements (items_of xs.0) (items_of zs)) xs.3 (sorts_of xs.0 xs.2) in
      subst (λ (z : Edn × List ℕ). Element (suc room) (35 ∷ 123 ∷ text) z.0 z.1) (ok_is {E = Fault} (set (items_of ys.0.0), ys.0.1) x ys.2) (collection (items_take (length text) 125 text (xs.0, ys.0.1) xs.1) sorts)

mutual
  unfolding skip read

  pub skip_takes : (room : ℕ) (text rest : List ℕ) → skip room text ≡ Ok rest → Blank room text rest
  skip_takes zero text rest e = skip_with_takes 0 (λ at. fault TooDeep at) (λ t after r h behind. fault_isnt_ok TooDeep (35 ∷ 95 ∷ t) after h) (length text) text rest e
  skip_takes (suc room) text rest e =
      skip_with_takes (suc room) (λ at. skip room (drop 2 at) >>= λ start. read room start >>= λ x. Ok x.1)
      (λ t after r h behind.
      let s = bind_ok (skip room t) (λ start. read room start >>= λ x. Ok x.1) after h in
      let x = bind_ok (read room s.0) (λ x. Ok x.1) after s.2 in
      discard (skip_takes room t s.0 s.1) (read_takes room s.0 x.0 x.1) (subst (λ (a : List ℕ). Blank (suc room) a r) (sym (ok_is x.0.1 after x.2)) behind))
      (length text) text rest e

  pub read_takes : (room : ℕ) (text : List ℕ) (x : Edn × List ℕ) → read room text ≡ Ok x → Element room text x.0 x.1
  read_takes zero text x e =
      read_with_takes 0 (λ close at. fault TooDeep at) (λ at. fault TooDeep at) (λ at. fault TooDeep at)
      (record {
        for_vectors = λ opening close t y h d. fault_isnt_ok TooDeep (opening ∷ t) y d;
        for_maps = λ t y d. fault_isnt_ok TooDeep (123 ∷ t) y d;
        for_sets = λ t y d. fault_isnt_ok TooDeep (35 ∷ 123 ∷ t) y d;
      })
      text x e
  read_takes (suc room) text x e =
      read_with_takes (suc room) (vector_with (skip room) (read room)) (mapping_with (skip room) (read room)) (collection_with (skip room) (read room))
      (record {
        for_vectors = vector_takes room (skip_takes room) (read_takes room);
        for_maps = mapping_takes room (skip_takes room) (read_takes room);
        for_sets = collection_takes room (skip_takes room) (read_takes room);
      })
      text x e

-- ---- whole texts

first_takes : (text : List ℕ) (x : Edn × List ℕ) → first text ≡ Ok x → Element most_nested text x.0 x.1
first_takes [] x e = absurd cc
first_takes (b ∷ text) x e = read_takes most_nested (b ∷ text) x e

last_takes : (x : Edn) (rest : List ℕ) (y : Edn) → last x rest ≡ Ok y → (rest ≡ []) × (x ≡ y)
last_takes x [] y e = (refl, ok_is x y e)
last_takes x (b ∷ rest) y e = absurd cc

checked_takes : {A : Type 0} (text : List ℕ) (r : Result A Fault) (x : A) → checked text r ≡ Ok x → IsUtf8 text × (r ≡ Ok x)
unfolding checked
checked_takes text r x e =
    elim (chosen (is_utf8 text) r (fault NotUtf8 (drop (utf8_valid_len text) text)) (Ok x) e) [ inl p ↦ (IsUtf8-from_is_utf8 text p.0, p.1) | inr p ↦ fault_isnt_ok NotUtf8 (drop (utf8_valid_len text) text) x p.1 ]

pub one_takes : (text : List ℕ) (x : Edn) → one text ≡ Ok x → IsText text x
unfolding one
one_takes text x e =
    let c = checked_takes text (skip most_nested text >>= λ start. first start >>= λ y. skip most_nested y.1 >>= λ rest. last y.0 rest) x e in
    let s = bind_ok (skip most_nested text) (λ start. first start >>= λ y. skip most_nested y.1 >>= λ rest. last y.0 rest) x c.1 in
    let y = bind_ok (first s.0) (λ y. skip most_nested y.1 >>= λ rest. last y.0 rest) x s.2 in
    let r = bind_ok (skip most_nested y.0.1) (λ rest. last y.0.0 rest) x y.2 in
    let l = last_takes y.0.0 r.0 x r.2 in
    record {
      utf8 = c.0;
      start = s.0;
      after = y.0.1;
      before = skip_takes most_nested text s.0 s.1;
      element = subst (λ (z : Edn). Element most_nested s.0 z y.0.1) l.1 (first_takes s.0 y.0 y.1);
      behind = subst (λ (z : List ℕ). Blank most_nested y.0.1 z) l.0 (skip_takes most_nested y.0.1 r.0 r.1);
    }

all_step_takes : (inner : List ℕ → Result (List Edn) Fault) (text start : List ℕ) → ((after : List ℕ) (xs : List Edn) → length after < length text → inner after ≡ Ok xs → Series after xs) → (xs : List Edn) → Blank most_nested text start
    → all_step inner start ≡ Ok xs → Series text xs
all_step_takes inner text [] how xs before e = subst (Series text) (ok_is [] xs e) (ended before)
all_step_takes inner text (b ∷ start) how xs before e =
    let x = bind_ok (read most_nested (b ∷ start)) (λ x. inner x.1 >>= λ ys. Ok (x.0 ∷ ys)) xs e in
    let ys = bind_ok (inner x.0.1) (λ ys. Ok (x.0.0 ∷ ys)) xs x.2 in
    let first = read_takes most_nested (b ∷ start) x.0 x.1 in
    let shorter : length x.0.1 < length text = omega (arith, element_shorter first, blank_shorter before) in
    subst (Series text) (ok_is (x.0.0 ∷ ys.0) xs ys.2) (next before first (how x.0.1 ys.0 shorter ys.1))

-- The turns are enough: each takes a byte at least.
all_with_takes : (turns : ℕ) (text : List ℕ) (xs : List Edn) → length text ≤ turns → all_with turns text ≡ Ok xs → Series text xs
unfolding all_with
all_with_takes zero text xs enough e =
    let s = bind_ok (skip most_nested text) (λ start. all_step (λ at. Ok []) start) xs e in
    all_step_takes (λ at. Ok []) text s.0 (λ after ys shorter h. absurd (omega arith)) xs (skip_takes most_nested text s.0 s.1) s.2
all_with_takes (suc turns) text xs enough e =
    let s = bind_ok (skip most_nested text) (λ start. all_step (all_with turns) start) xs e in
    all_step_takes (all_with turns) text s.0 (λ after ys shorter h. all_with_takes turns after ys (omega arith) h) xs (skip_takes most_nested text s.0 s.1) s.2

pub all_takes : (text : List ℕ) (xs : List Edn) → all text ≡ Ok xs → AreTexts text xs
unfolding all
all_takes text xs e =
    let c = checked_takes text (all_with (length text) text) xs e in
    record { utf8 = c.0; series = all_with_takes (length text) text xs (omega arith) c.1 }
