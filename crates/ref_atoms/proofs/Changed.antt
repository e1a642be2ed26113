-- The entries of atoms that are changed.
use Rattle.std.proofs.Common.{◌≡◌, ℕ, true, List, Some, Ok, slice_get, slice_set, refl, sym}
use Rattle.std.specs.Ordering.{eq_by_cmp}
use Rattle.ref_value.specs.Edn.{Edn}
use Rattle.ref_value.specs.Order.{edn_cmp}
use Rattle.ref_value.specs.OrderLaws.{edn_eq}
use Rattle.ref_fun.specs.Meaning.{Means}
use Rattle.ref_log.specs.Laws.{is_kept-itself}
use Rattle.ref_log.specs.Replay.{done_of, place, step}
use Rattle.ref_log.specs.declared.entries.Entry.{Entry}
use Rattle.ref_log.specs.declared.entries.Entry.TheVariants as entries
use Rattle.ref_log.specs.declared.operations.Op.{Op}
use Rattle.ref_log.specs.declared.operations.Op.TheVariants.{Set}

pub same_value : (v w : Edn) → eq_by_cmp edn_cmp v w ≡ true → v ≡ w
same_value v w same = (edn_eq v w true (sym same)).0 refl

-- the entry of a change is one step of the replay
pub stepped : (means : Means) (at a : ℕ) (op : Op) (values after : List Edn) (e : Entry) (old v : Edn) → slice_get values a ≡ Some old → place means op old ≡ Ok v → e ≡ entries.Atom a op v → after ≡ slice_set values a v
    → (refs : List Edn) → step means at e (record { refs = refs; atoms = values }) ≡ Ok (record { refs = refs; atoms = after })
stepped means at a op values after e old v is gives entry sets refs = rw (entry, is, gives, is_kept-itself (done_of a op v), sets) refl

pub set_to : (w v : Edn) (means : Means) (old : Edn) → place means (Set w) old ≡ Ok v → w ≡ v
set_to w v means old is = cc
