-- A ref that is looked up once, for the point of its last change and for its value.
use Rattle.std.proofs.Common.{◌≡◌, ℕ, ◌||◌, ◌&&◌, Bool, true, false, not, nat_lt, List, Option, None, Some, slice_get, refl, sym, ap, ◌∙◌, arith}
use Rattle.std.proofs.lemmas.Bool.{and_parts, le-ltb, not-true}
use Rattle.std.proofs.lemmas.Option.{get_or_from_slice_get}
use Rattle.ref_value.specs.Edn.{Edn}
use Rattle.ref_log.specs.Replay.{is_commute}
use Rattle.ref_log.specs.declared.operations.Done.{Done}
use Rattle.ref_refs.specs.Commit.{changed_after, differs}
use Rattle.ref_refs.specs.Seen.{changed_at}
use Rattle.ref_refs.specs.Smaller.{is_new, is_this}
use Rattle.ref_refs.proofs.Since.{never_changed}

pub other_none : (values : List Edn) (start : Option Edn) (lasts : List ℕ) (read_point r : ℕ) → None ≡ slice_get values r → None ≡ slice_get lasts r → false ≡ (changed_after lasts read_point r || differs start (slice_get values r))
other_none values start lasts read_point r no_value no_last =
    sym (ap (λ b. b || differs start (slice_get values r)) (ap (nat_lt read_point) (never_changed lasts r (sym no_last)) ∙ le-ltb read_point 0 (omega arith))
    ∙ ap (differs start) (sym no_value))

pub other_some : (values : List Edn) (start : Option Edn) (lasts : List ℕ) (read_point r at : ℕ) (v : Edn) → Some v ≡ slice_get values r → Some at ≡ slice_get lasts r
    → (nat_lt read_point at || differs start (Some v)) ≡ (changed_after lasts read_point r || differs start (slice_get values r))
other_some values start lasts read_point r at v value last =
    ap (λ n. nat_lt read_point n || differs start (Some v)) (sym (changed_some lasts r at last))
    ∙ ap (λ o. changed_after lasts read_point r || differs start o) value
  where
    changed_some : (ls : List ℕ) (i x : ℕ) → Some x ≡ slice_get ls i → changed_at ls i ≡ x
    changed_some ls i x e = get_or_from_slice_get ls i x 0 (sym e)

-- Of an operation that protects another ref than the known one, what its ref began with is asked for; of others nothing.
pub new_start : (known : Option ℕ) (d : Done) (f : Option Edn → Bool) (start began : Option Edn) → (is_commute d.op ≡ false → start ≡ began) → (is_new known d && f start) ≡ (is_new known d && f began)
new_start known d f start began same = by (is_new known d) refl
  where
    by : (b : Bool) → is_new known d ≡ b → (b && f start) ≡ (b && f began)
    by true e = ap f (same (not-true (is_commute d.op) ((and_parts (not (is_commute d.op)) (not (is_this known d.r)) e).0)))
    by false e = refl
