-- What the operations from a place on touch.
use Rattle.std.proofs.Common.{◌≡◌, ℕ, ◌+◌, ◌<◌, ◌||◌, List, [], ◌++◌, Option, None, Some, refl, sym, drop, take, get_or, length, drop-cons, add-one, if◌then◌else◌}
use Rattle.std.proofs.lemmas.List.{append-nil, take_more}
use Rattle.std.specs.Prelude.{slice_get}
use Rattle.ref_value.specs.Edn.{Edn}
use Rattle.ref_log.specs.Replay.{is_ensure, is_touched}
use Rattle.ref_log.specs.declared.operations.Done.{Done}
use Rattle.ref_history.specs.Changes.{before_of, befores_from}
use Rattle.ref_history.specs.declared.befores.Before.{Before}

pub nothing_more : (n : ℕ) (there : Option Edn) (bs : List Before) → there ≡ None → bs ≡ bs ++ before_of n there
nothing_more n None bs none = sym (append-nil bs)
nothing_more n (Some v) bs none = absurd cc

pub befores_at : (values : List Edn) (ds : List Done) (i : ℕ) (d : Done) → i < length ds
    → (get_or ds i d ≡ get_or ds i d)
    × (befores_from values (take i ds) (drop i ds)
    ≡ (if is_ensure (get_or ds i d).op || is_touched (take i ds) (get_or ds i d).r then [] else before_of (get_or ds i d).r (slice_get values (get_or ds i d).r))
    ++ befores_from values (take (i + 1) ds) (drop (i + 1) ds))
befores_at values ds i d h = (refl, rw (take_more ds i d h, add-one, drop-cons ds i d) refl)
