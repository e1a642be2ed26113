-- A replay that goes on from the answers that the log keeps.
use Rattle.std.proofs.Common.{◌≡◌, ◌∙◌, ℕ, Bool, true, false, List, Some, Ok, slice_get, slice_set, refl, sym, ap}
use Rattle.std.specs.Ordering.{eq_by_cmp}
use Rattle.ref_value.specs.Edn.{Edn}
use Rattle.ref_value.specs.Order.{edn_cmp}
use Rattle.ref_fun.specs.Meaning.{Means}
use Rattle.ref_log.specs.Laws.{same_value}
use Rattle.ref_log.specs.Replay.{after_found, after_one, after_place, place}
use Rattle.ref_log.specs.declared.operations.Done.{Done}

pub goes_on : (means : Means) (free : Bool) (point : ℕ) (d : Done) (values : List Edn) (old v w : Edn) → free ≡ false → slice_get values d.r ≡ Some old → place means d.op old ≡ Ok v
    → eq_by_cmp edn_cmp v d.answer ≡ true → w ≡ d.answer → after_one means free point d values ≡ Ok (slice_set values d.r w)
goes_on means free point d values old v w protects there gives same goes =
    rw (protects, there, gives, same) (ap (λ x. Ok (slice_set values d.r x)) (same_value v d.answer same ∙ sym goes))
