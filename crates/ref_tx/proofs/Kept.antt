-- What is kept of the values that a transaction began with.
use Rattle.std.proofs.Common.{◌≡◌, ◌≤◌, ◌-◌, ℕ, zero, suc, List, [], ◌∷◌, Option, None, Some, false, if◌then◌else◌, map, drop, refl, ap, ◌∙◌, arith, slice_get}
use Rattle.std.proofs.lemmas.Option.{slice_get-map}
use Rattle.std.specs.Option.{option_map}
use Rattle.ref_value.specs.Edn.{Edn}
use Rattle.ref_log.specs.Replay.{is_commute}
use Rattle.ref_log.specs.declared.operations.Done.{Done}
use Rattle.ref_tx.specs.Starts.{HasStarts, flat, kept_at, start_in, start_of}

-- all values are kept
pub all_kept : (began : List Edn) (start_at : ℕ → ℕ → Option Edn) (dones : List Done) → ((i r : ℕ) → start_at i r ≡ slice_get began r) → HasStarts began start_at dones
all_kept began start_at dones has_all = record { starts = λ i d here is. has_all i d.r }

pub kept_late : (first second : Option Edn) (others : List (Option Edn)) (i : ℕ) → 2 ≤ i → kept_at first second others i ≡ flat (slice_get others (i - 2))
kept_late first second others zero h = absurd (omega (arith, h))
kept_late first second others (suc zero) h = absurd (omega (arith, h))
kept_late first second others (suc (suc i)) h = let e : suc (suc i) - 2 ≡ i = omega arith in rw e refl

-- what is kept for an operation that protects its ref
start_is : (began : List Edn) (o : Option Done) (d : Done) → o ≡ Some d → is_commute d.op ≡ false → start_of began o ≡ slice_get began d.r
start_is began o d here is = ap (start_of began) here ∙ ap (λ b. if b then None else slice_get began d.r) is

flat_start : (began : List Edn) (o : Option Done) → flat (option_map (start_in began) o) ≡ start_of began o
flat_start began None = refl
flat_start began (Some d) = refl

behind_two : (dones : List Done) (i : ℕ) → slice_get (drop 2 dones) i ≡ slice_get dones (suc (suc i))
behind_two [] i = refl
behind_two (a ∷ []) i = refl
behind_two (a ∷ b ∷ dones) i = refl

pub has_starts : (began : List Edn) (dones : List Done) (first second : Option Edn) (others : List (Option Edn))
    → first ≡ start_of began (slice_get dones 0) → second ≡ start_of began (slice_get dones 1) → others ≡ map (start_in began) (drop 2 dones)
    → HasStarts began (λ i r. kept_at first second others i) dones
has_starts began dones first second others one two more = record { starts = at }
  where
    at : (i : ℕ) (d : Done) → slice_get dones i ≡ Some d → is_commute d.op ≡ false → kept_at first second others i ≡ slice_get began d.r
    at zero d here is = one ∙ start_is began (slice_get dones 0) d here is
    at (suc zero) d here is = two ∙ start_is began (slice_get dones 1) d here is
    at (suc (suc i)) d here is =
        ap (λ os. flat (slice_get os i)) more
        ∙ ap flat (slice_get-map (start_in began) (drop 2 dones) i)
        ∙ flat_start began (slice_get (drop 2 dones) i)
        ∙ start_is began (slice_get (drop 2 dones) i) d (behind_two dones i ∙ here) is
