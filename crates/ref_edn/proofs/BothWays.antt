-- What the reader answers, by the grammar.
use Rattle.std.proofs.Common.{◌≡◌, ◌≢◌, ℕ, ◌-◌, ◌<◌, Bool, true, false, List, length, drop, Result, Ok, Err, refl, sym, ap, ◌∙◌, arith, length-drop}
use Rattle.std.specs.Prelude.{IfOk, IfErr, IsUtf8}
use Rattle.std.specs.Str.{is_utf8}
use Rattle.std.specs.Str.Lossy.{utf8_valid_len}
use Rattle.std.proofs.lemmas.Str.{IsUtf8-from_is_utf8}
use Rattle.ref_edn.specs.declared.faults.Fault.{Fault}
use Rattle.ref_edn.specs.declared.faults.Flaw.{Flaw}
use Rattle.ref_edn.specs.declared.faults.Flaw.TheVariants as kinds
use Rattle.ref_edn.specs.declared.faults.ReadError.{ReadError}
use Rattle.ref_edn.specs.declared.faults.ReadError.TheVariants as errors
use Rattle.ref_edn.specs.declared.faults.ReadFault.{ReadFault}
use Rattle.ref_edn.specs.declared.faults.ReadFault.TheVariants as faults
use Rattle.ref_value.specs.Edn.{Edn}
use Rattle.ref_edn.specs.Grammar.{IsText, AreTexts}
use Rattle.ref_edn.specs.Faults.{Gives, Answers, fault, fault_at, public_fault}
use Rattle.ref_edn.specs.ReadParts.{whole_at, series_at, public_error}
use Rattle.ref_edn.specs.Reading.{checked, one, all}
use Rattle.ref_edn.proofs.Outcomes.{ok_is}
use Rattle.ref_edn.proofs.Sound.{one_takes, all_takes}
use Rattle.ref_edn.proofs.Complete.{one_again, all_again, checked_again}

-- ---- public faults

module _ {X Y : Type 0} (text : List ℕ) (view : X → Y) (read : Result Y Fault) where
  answers_fault : (kind : Flaw) (place : ℕ) → (f : Fault) × (read ≡ Err f) × (fault_at kind place ≡ public_fault text f) → Answers text view (Err (fault_at kind place)) read
  answers_fault kinds.Nothing place p = p
  answers_fault kinds.EndsEarly place p = p
  answers_fault kinds.BadByte place p = p
  answers_fault kinds.BadNumber place p = p
  answers_fault kinds.TooLarge place p = p
  answers_fault kinds.BadEscape place p = p
  answers_fault kinds.BadName place p = p
  answers_fault kinds.WrongClose place p = p
  answers_fault kinds.Duplicate place p = p
  answers_fault kinds.OddMap place p = p
  answers_fault kinds.TooDeep place p = p
  answers_fault kinds.LeftOut place p = p
  answers_fault kinds.NotUtf8 place p = p
  answers_fault kinds.Trailing place p = p

  pub answers_error : (e : ReadError) → Gives view (Err e) read → Answers text view (Err (public_error text e)) read
  answers_error errors.Memory h = tt
  answers_error (errors.Fault f) h = answers_fault f.kind (length text - f.left) (f, h, refl)

  is_fault : (e : ReadFault) → e ≢ faults.Memory → Answers text view (Err e) read → (f : Fault) × (read ≡ Err f)
  is_fault faults.Memory h a = absurd (h refl)
  is_fault (faults.Nothing place) h a = (a.0, a.1)
  is_fault (faults.EndsEarly place) h a = (a.0, a.1)
  is_fault (faults.BadByte place) h a = (a.0, a.1)
  is_fault (faults.BadNumber place) h a = (a.0, a.1)
  is_fault (faults.TooLarge place) h a = (a.0, a.1)
  is_fault (faults.BadEscape place) h a = (a.0, a.1)
  is_fault (faults.BadName place) h a = (a.0, a.1)
  is_fault (faults.WrongClose place) h a = (a.0, a.1)
  is_fault (faults.Duplicate place) h a = (a.0, a.1)
  is_fault (faults.OddMap place) h a = (a.0, a.1)
  is_fault (faults.TooDeep place) h a = (a.0, a.1)
  is_fault (faults.LeftOut place) h a = (a.0, a.1)
  is_fault (faults.NotUtf8 place) h a = (a.0, a.1)
  is_fault (faults.Trailing place) h a = (a.0, a.1)

unlike_true : (b : Bool) → (b ≡ true → ⊥) → b ≡ false
unlike_true true h = absurd (h refl)
unlike_true false h = refl

not_utf8 : {Y : Type 0} (text : List ℕ) (read : Result Y Fault) → ¬ (IsUtf8 text) → checked text read ≡ fault kinds.NotUtf8 (drop (utf8_valid_len text) text)
unfolding checked
not_utf8 text read h = rw (unlike_true (is_utf8 text) (λ e. h (IsUtf8-from_is_utf8 text e))) refl

-- A text that isn't UTF-8, and how far it is.
pub answers_not_utf8 : {X Y : Type 0} (text : List ℕ) (view : X → Y) (read : Result Y Fault) (n : ℕ) → ¬ (IsUtf8 text) → n < length text → n ≡ utf8_valid_len text → Answers text view (Err (faults.NotUtf8 n)) (checked text read)
answers_not_utf8 text view read n h short is =
    let place : length text - length (drop n text) ≡ n = omega (arith, length-drop n text) in
    (record { kind = kinds.NotUtf8; left = length (drop n text) }, rw is (not_utf8 text read h), ap faults.NotUtf8 (sym place))

-- ---- the public answers

one_is : (text : List ℕ) → one text ≡ checked text (whole_at text)
unfolding one whole_at
one_is text = refl

all_is : (text : List ℕ) → all text ≡ checked text (series_at text)
unfolding all series_at
all_is text = refl

pub one_of_whole : (text : List ℕ) → IsUtf8 text → one text ≡ whole_at text
one_of_whole text u = one_is text ∙ checked_again text (whole_at text) u

pub all_of_series : (text : List ℕ) → IsUtf8 text → all text ≡ series_at text
all_of_series text u = all_is text ∙ checked_again text (series_at text) u

pub one_not_utf8 : {X : Type 0} (view : X → Edn) (text : List ℕ) (n : ℕ) → ¬ (IsUtf8 text) → n < length text → n ≡ utf8_valid_len text → Answers text view (Err (faults.NotUtf8 n)) (one text)
one_not_utf8 view text n h short is = rw (one_is text) (answers_not_utf8 text view (whole_at text) n h short is)

pub all_not_utf8 : {X : Type 0} (view : X → List Edn) (text : List ℕ) (n : ℕ) → ¬ (IsUtf8 text) → n < length text → n ≡ utf8_valid_len text → Answers text view (Err (faults.NotUtf8 n)) (all text)
all_not_utf8 view text n h short is = rw (all_is text) (answers_not_utf8 text view (series_at text) n h short is)

pub one_found : {X : Type 0} (view : X → Edn) (text : List ℕ) (r : Result X ReadFault) → Answers text view r (one text) → IfOk r (λ x. IsText text (view x))
one_found view text (Ok x) h = one_takes text (view x) h
one_found view text (Err e) h = tt

pub one_none : {X : Type 0} (view : X → Edn) (text : List ℕ) (r : Result X ReadFault) → Answers text view r (one text) → IfErr r (λ e. e ≢ faults.Memory → (v : Edn) → IsText text v → ⊥)
one_none view text (Ok x) h = tt
one_none view text (Err e) h = λ isnt v b. let p = is_fault text view (one text) e isnt h in let q = sym p.1 ∙ one_again text v b in cc

pub one_only : (text : List ℕ) (v w : Edn) → IsText text v → IsText text w → v ≡ w
one_only text v w b c = ok_is {E = Fault} v w (sym (one_again text v b) ∙ one_again text w c)

pub all_found : {X : Type 0} (view : X → List Edn) (text : List ℕ) (r : Result X ReadFault) → Answers text view r (all text) → IfOk r (λ x. AreTexts text (view x))
all_found view text (Ok x) h = all_takes text (view x) h
all_found view text (Err e) h = tt

pub all_none : {X : Type 0} (view : X → List Edn) (text : List ℕ) (r : Result X ReadFault) → Answers text view r (all text) → IfErr r (λ e. e ≢ faults.Memory → (v : List Edn) → AreTexts text v → ⊥)
all_none view text (Ok x) h = tt
all_none view text (Err e) h = λ isnt v b. let p = is_fault text view (all text) e isnt h in let q = sym p.1 ∙ all_again text v b in cc

pub all_only : (text : List ℕ) (v w : List Edn) → AreTexts text v → AreTexts text w → v ≡ w
all_only text v w b c = ok_is {E = Fault} v w (sym (all_again text v b) ∙ all_again text w c)
