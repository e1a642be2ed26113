-- The text of a value and of what a collection holds, from a place on.
use Rattle.std.proofs.Common.{◌≡◌, ℕ, ◌+◌, ◌<◌, ◌≤◌, List, [], ◌∷◌, ◌++◌, refl, sym, ap, ◌∙◌, arith, take, drop, get_or, length, drop-cons, add-one, append_assoc, take_all}
use Rattle.std.specs.Prelude.{Bool, true, false, cond}
use Rattle.std.proofs.lemmas.List.{append-nil, take_more, take-append-drop, take_at, take-take, length-take}
use Rattle.std.specs.Fmt.{signed_decimal}
use Rattle.ref_value.specs.Edn.{Edn, nil, boolean, int, string, keyword, symbol, vector, map, set, Items, no_items, item, items_of, Entries, no_entries, entry, entries_of}
use Rattle.ref_edn.specs.Printed.{text, items_text, more_items, entries_text, more_entries, printed, escaped, escaped_byte}

-- ---- a text and a rest

-- two texts that begin alike, where what follows in the one is what follows in the other and then a rest
begun : (x a b rest u v : List ℕ) → u ≡ x ++ a → v ≡ x ++ b → a ≡ b ++ rest → u ≡ v ++ rest
begun x a b rest u v p q e = p ∙ ap (λ (t : List ℕ). x ++ t) e ∙ sym (append_assoc x b rest) ∙ ap (λ (t : List ℕ). t ++ rest) (sym q)

mutual
  pub text_then : (x : Edn) (rest : List ℕ) → text x rest ≡ text x [] ++ rest
  text_then nil rest = refl
  text_then (boolean true) rest = refl
  text_then (boolean false) rest = refl
  text_then (int n) rest = ap (λ (t : List ℕ). t ++ rest) (sym (append-nil (signed_decimal n)))
  text_then (string s) rest = ap (λ (t : List ℕ). 34 ∷ t) (sym (append_assoc (escaped s) (34 ∷ []) rest))
  text_then (keyword s) rest = ap (λ (t : List ℕ). 58 ∷ (t ++ rest)) (sym (append-nil s))
  text_then (symbol s) rest = ap (λ (t : List ℕ). t ++ rest) (sym (append-nil s))
  text_then (vector xs) rest = ap (λ (t : List ℕ). 91 ∷ t) (items_then 93 xs rest)
  text_then (map es) rest = ap (λ (t : List ℕ). 123 ∷ t) (entries_then es rest)
  text_then (set xs) rest = ap (λ (t : List ℕ). 35 ∷ 123 ∷ t) (items_then 125 xs rest)

  items_then : (close : ℕ) (xs : Items) (rest : List ℕ) → items_text close xs rest ≡ items_text close xs [] ++ rest
  items_then close no_items rest = refl
  items_then close (item x xs) rest =
      begun (text x []) (more_items close xs rest) (more_items close xs []) rest _ _ (text_then x (more_items close xs rest)) (text_then x (more_items close xs [])) (more_items_then close xs rest)

  more_items_then : (close : ℕ) (xs : Items) (rest : List ℕ) → more_items close xs rest ≡ more_items close xs [] ++ rest
  more_items_then close no_items rest = refl
  more_items_then close (item x xs) rest =
      ap (λ (t : List ℕ). 32 ∷ t) (begun (text x []) (more_items close xs rest) (more_items close xs []) rest _ _ (text_then x (more_items close xs rest)) (text_then x (more_items close xs []))
      (more_items_then close xs rest))

  entries_then : (es : Entries) (rest : List ℕ) → entries_text es rest ≡ entries_text es [] ++ rest
  entries_then no_entries rest = refl
  entries_then (entry k x es) rest =
      let e : text x (more_entries es rest) ≡ text x (more_entries es []) ++ rest =
      begun (text x []) (more_entries es rest) (more_entries es []) rest _ _ (text_then x (more_entries es rest)) (text_then x (more_entries es [])) (more_entries_then es rest)
      in
      begun (text k []) (32 ∷ text x (more_entries es rest)) (32 ∷ text x (more_entries es [])) rest _ _ (text_then k (32 ∷ text x (more_entries es rest)))
      (text_then k (32 ∷ text x (more_entries es []))) (ap (λ (t : List ℕ). 32 ∷ t) e)

  more_entries_then : (es : Entries) (rest : List ℕ) → more_entries es rest ≡ more_entries es [] ++ rest
  more_entries_then no_entries rest = refl
  more_entries_then (entry k x es) rest =
      let e : text x (more_entries es rest) ≡ text x (more_entries es []) ++ rest =
      begun (text x []) (more_entries es rest) (more_entries es []) rest _ _ (text_then x (more_entries es rest)) (text_then x (more_entries es [])) (more_entries_then es rest)
      in
      ap (λ (t : List ℕ). 44 ∷ 32 ∷ t) (begun (text k []) (32 ∷ text x (more_entries es rest)) (32 ∷ text x (more_entries es [])) rest _ _ (text_then k (32 ∷ text x (more_entries es rest)))
      (text_then k (32 ∷ text x (more_entries es []))) (ap (λ (t : List ℕ). 32 ∷ t) e))

-- ---- what stands between elements, and a collection from a place on

abbrev pub tail : Bool → ℕ → Items → List ℕ
tail false close xs = items_text close xs []
tail true close xs = more_items close xs []

abbrev pub entries_tail : Bool → Entries → List ℕ
entries_tail false es = entries_text es []
entries_tail true es = more_entries es []

-- the first element, what stands before it, and the rest
pub tail_first : (close : ℕ) (later : Bool) (x : Edn) (xs : List Edn) → tail later close (items_of (x ∷ xs)) ≡ (cond later (32 ∷ []) [] ++ printed x) ++ tail true close (items_of xs)
tail_first close false x xs = text_then x (more_items close (items_of xs) [])
tail_first close true x xs = ap (λ (t : List ℕ). 32 ∷ t) (text_then x (more_items close (items_of xs) []))

entry_then : (k x : Edn) (es : Entries) → text k (32 ∷ text x (more_entries es [])) ≡ (printed k ++ 32 ∷ printed x) ++ more_entries es []
entry_then k x es =
    text_then k (32 ∷ text x (more_entries es [])) ∙ ap (λ (t : List ℕ). text k [] ++ 32 ∷ t) (text_then x (more_entries es [])) ∙ sym (append_assoc (printed k) (32 ∷ printed x) (more_entries es []))

-- the first key and its value, what stands before them, and the rest
pub entries_tail_first : (later : Bool) (e : Edn × Edn) (es : List (Edn × Edn))
    → entries_tail later (entries_of (e ∷ es)) ≡ (cond later (44 ∷ 32 ∷ []) [] ++ (printed e.0 ++ 32 ∷ printed e.1)) ++ entries_tail true (entries_of es)
entries_tail_first false e es = entry_then e.0 e.1 (entries_of es)
entries_tail_first true e es = ap (λ (t : List ℕ). 44 ∷ 32 ∷ t) (entry_then e.0 e.1 (entries_of es))

-- ---- strings

pub escaped-append : (s t : List ℕ) → escaped (s ++ t) ≡ escaped s ++ escaped t
escaped-append [] t = refl
escaped-append (b ∷ s) t = ap (λ (u : List ℕ). escaped_byte b ++ u) (escaped-append s t) ∙ sym (append_assoc (escaped_byte b) (escaped s) (escaped t))

-- one more byte that stands as it is
pub plain_more : (s : List ℕ) (i b : ℕ) → i < length s → escaped (take i s) ≡ take i s → escaped_byte (get_or s i b) ≡ get_or s i b ∷ []
    → (get_or s i b ≡ get_or s i b) × (escaped (take (i + 1) s) ≡ take (i + 1) s)
plain_more s i b h e f =
    (refl, rw (take_more s i b h, escaped-append) (ap (λ (u : List ℕ). u ++ escaped (get_or s i b ∷ [])) e ∙ ap (λ (u : List ℕ). take i s ++ u) (append-nil (escaped_byte (get_or s i b)) ∙ f)))

-- a string whose front stands as it is, and one more byte
pub escaped_at : (s : List ℕ) (run b : ℕ) → run < length s → b ≡ get_or s run b → escaped (take run s) ≡ take run s → escaped s ≡ take run s ++ (escaped_byte b ++ escaped (drop (run + 1) s))
escaped_at s run b h g e =
    let f : escaped (drop run s) ≡ escaped_byte b ++ escaped (drop (run + 1) s) = rw (add-one, drop-cons s run b h, ← g) refl in
    ap escaped (sym (take-append-drop run s)) ∙ escaped-append (take run s) (drop run s) ∙ ap (λ (t : List ℕ). t ++ escaped (drop run s)) e ∙ ap (λ (t : List ℕ). take run s ++ t) f

pub escaped_all : (s : List ℕ) (run : ℕ) → length s ≤ run → escaped (take run s) ≡ take run s → escaped s ≡ take run s
escaped_all s run h e = ap escaped (sym (take_all run s h)) ∙ e

-- ---- steps of printing

-- What is out and what is left are the whole text; a part of what is left is put out.
pub step : (all out put left part more : List ℕ) → out ++ left ≡ all → put ≡ out ++ part → left ≡ part ++ more → put ++ more ≡ all
step all out put left part more w p e = ap (λ (t : List ℕ). t ++ more) p ∙ append_assoc out part more ∙ ap (λ (t : List ℕ). out ++ t) (sym e) ∙ w

-- What stood in front stays in front through two steps.
pub kept_twice : (a b c : List ℕ) → take (length a) b ≡ a → take (length b) c ≡ b → take (length a) c ≡ a
kept_twice a b c h k =
    let small : length a ≤ length b = omega (arith, ap length h, length-take (length a) b) in
    sym (take-take (length a) (length b) c small) ∙ ap (λ (t : List ℕ). take (length a) t) k ∙ h

pub kept_then : (a x c : List ℕ) → take (length (a ++ x)) c ≡ a ++ x → (take (length (a ++ x)) c ≡ take (length (a ++ x)) c) × (take (length a) c ≡ a)
kept_then a x c h = (refl, kept_twice a (a ++ x) c (take_at a x (length a) refl) h)

pub kept_put : (a out put part : List ℕ) → take (length a) out ≡ a → put ≡ out ++ part → take (length a) put ≡ a
kept_put a out put part h e = kept_twice a out put h (ap (λ (t : List ℕ). take (length out) t) e ∙ take_at out part (length out) refl)
