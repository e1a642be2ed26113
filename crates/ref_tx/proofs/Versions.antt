-- A snapshot with another value of a ref.
use Rattle.std.proofs.Common.{◌≡◌, ℕ, List, Result, Ok, Err, OnOk, slice_set, ap, ◌∙◌}
use Rattle.std.proofs.lemmas.List.{map-set}
use Rattle.ref_value.specs.Edn.{Edn}
use Rattle.ref_tx.specs.Snapshots.{SnapshotSeen, changes_of, values_of}
use Rattle.ref_tx.specs.declared.snapshots.Version.{Version}

pub set_values : {T E : Type 0} (result : Result T E) (old new : List Version) (seen : SnapshotSeen) (r at : ℕ) (v : Edn) → record { values = values_of old; lasts = changes_of old } ≡ seen
    → OnOk result (new ≡ slice_set old r (record { value = v; changed_at = at })) → OnOk result (values_of new ≡ slice_set seen.values r v)
set_values (Err e) old new seen r at v view sets = tt
set_values (Ok x) old new seen r at v view sets =
    ap values_of sets
    ∙ map-set (λ (w : Version). w.value) old r (record { value = v; changed_at = at })
    ∙ ap (λ (s : SnapshotSeen). slice_set s.values r v) view

pub set_lasts : {T E : Type 0} (result : Result T E) (old new : List Version) (seen : SnapshotSeen) (r at : ℕ) (v : Edn) → record { values = values_of old; lasts = changes_of old } ≡ seen
    → OnOk result (new ≡ slice_set old r (record { value = v; changed_at = at })) → OnOk result (changes_of new ≡ slice_set seen.lasts r at)
set_lasts (Err e) old new seen r at v view sets = tt
set_lasts (Ok x) old new seen r at v view sets =
    ap changes_of sets
    ∙ map-set (λ (w : Version). w.changed_at) old r (record { value = v; changed_at = at })
    ∙ ap (λ (s : SnapshotSeen). slice_set s.lasts r at) view
