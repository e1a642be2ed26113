-- Laws of in-transaction values.
use Rattle.std.specs.Prelude.{◌≡◌, ℕ, ◌==◌, Bool, true, false, if◌then◌else◌, List, [], ◌∷◌, ◌++◌, Option, Some, slice_get, refl}
use Rattle.std.proofs.Common.{◌∙◌, ap, sym}
use Rattle.std.proofs.lemmas.List.{append_assoc, append-nil}
use Rattle.ref_value.specs.Edn.{Edn}
use Rattle.ref_fun.specs.Meaning.{Means}
use Rattle.ref_log.specs.declared.operations.Op.{Op}
use Rattle.ref_log.specs.declared.operations.Done.{Done}
use Rattle.ref_tx.specs.Inner.{ops_on, and_place, after_ops, value_after, AreAnswers}

-- One more operation is made after the others.
pub after_ops-append : (means : Means) (ops : List Op) (op : Op) (v : Option Edn) → after_ops means (ops ++ op ∷ []) v ≡ and_place means op (after_ops means ops v)
after_ops-append means [] op v = refl
after_ops-append means (x ∷ ops) op v = after_ops-append means ops op (and_place means x v)

-- the operation of a list of one, where it is on this ref
abbrev pub only_on : ℕ → Done → List Op
only_on r d = if d.r == r then d.op ∷ [] else []

if-append : (b : Bool) (op : Op) (ops more : List Op) → (if b then op ∷ (ops ++ more) else ops ++ more) ≡ (if b then op ∷ ops else ops) ++ more
if-append true op ops more = refl
if-append false op ops more = refl

pub ops_on-append : (r : ℕ) (ds : List Done) (d : Done) → ops_on r (ds ++ d ∷ []) ≡ ops_on r ds ++ only_on r d
ops_on-append r [] d = refl
ops_on-append r (x ∷ ds) d =
    ap (λ ops. if x.r == r then x.op ∷ ops else ops) (ops_on-append r ds d) ∙ if-append (x.r == r) x.op (ops_on r ds) (only_on r d)

-- An operation more on a ref is made on its in-transaction value.
pub value_after-here : (means : Means) (began : List Edn) (ds : List Done) (d : Done) (r : ℕ) → (d.r == r) ≡ true → value_after means began (ds ++ d ∷ []) r ≡ and_place means d.op (value_after means began ds r)
value_after-here means began ds d r here =
    ap (λ ops. after_ops means ops (slice_get began r)) (ops_on-append r ds d ∙ ap (λ b. ops_on r ds ++ (if b then d.op ∷ [] else [])) here)
    ∙ after_ops-append means (ops_on r ds) d.op (slice_get began r)

-- The values of other refs stay.
pub value_after-elsewhere : (means : Means) (began : List Edn) (ds : List Done) (d : Done) (r : ℕ) → (d.r == r) ≡ false → value_after means began (ds ++ d ∷ []) r ≡ value_after means began ds r
value_after-elsewhere means began ds d r elsewhere =
    ap (λ ops. after_ops means ops (slice_get began r)) (ops_on-append r ds d ∙ ap (λ b. ops_on r ds ++ (if b then d.op ∷ [] else [])) elsewhere ∙ append-nil (ops_on r ds))

-- One more operation that answers the in-transaction value.
pub AreAnswers-append : (means : Means) (began : List Edn) (former ds : List Done) (d : Done) → AreAnswers means began former ds → value_after means began ((former ++ ds) ++ d ∷ []) d.r ≡ Some d.answer → AreAnswers means began former (ds ++ d ∷ [])
AreAnswers-append means began former [] d so_far here = (ap (λ l. value_after means began (l ++ d ∷ []) d.r) (sym (append-nil former)) ∙ here, tt)
AreAnswers-append means began former (x ∷ ds) d so_far here =
    (so_far.0, AreAnswers-append means began (former ++ x ∷ []) ds d so_far.1 (ap (λ l. value_after means began (l ++ d ∷ []) d.r) (append_assoc former (x ∷ []) ds) ∙ here))
