-- What the watches are told of a commit, in plain words.
use Rattle.std.proofs.Common.{◌≡◌, ℕ, zero, suc, ◌<◌, inl, inr, List, [], ◌∷◌, ◌++◌, length, Some, slice_get, refl, ap, ◌∙◌, arith}
use Rattle.std.specs.List.{AllByRecursion}
use Rattle.ref_value.specs.Edn.{Edn}
use Rattle.ref_log.specs.Guards.{keys_if_here}
use Rattle.ref_log.specs.declared.guards.Guard.{Guard}
use Rattle.ref_log.specs.declared.operations.Done.{Done}
use Rattle.ref_refs.specs.Watches.{notices, notices_if_here, touched_refs}
use Rattle.ref_play.specs.Plain.{AnyByRecursion, Changes, IsChanged, NoticesMean, Tell}
use Rattle.ref_play.proofs.PlainFaults.{changed_of, touched_rises}
use Rattle.ref_play.proofs.PlainLists.{all_map, each_any}
use Rattle.ref_play.proofs.PlainCommits.{each_touched}

-- each is among all
all_among : (ns : List ℕ) → AllByRecursion (λ n. AnyByRecursion (λ q. q ≡ n) ns) ns
all_among [] = tt
all_among (n ∷ ns) = (inl refl, all_map (λ m. AnyByRecursion (λ q. q ≡ m) ns) (λ m. AnyByRecursion (λ q. q ≡ m) (n ∷ ns)) (λ m among. inr among) ns (all_among ns))

changed_among : (ds : List Done) (r : ℕ) → IsChanged ds r → AnyByRecursion (λ q. q ≡ r) (touched_refs ds)
changed_among ds r changed =
    each_any (λ (d : Done). d.r) (λ (d : Done). Changes d.op) (λ n. AnyByRecursion (λ q. q ≡ n) (touched_refs ds)) ds
    (each_touched (λ n. AnyByRecursion (λ q. q ≡ n) (touched_refs ds)) [] ds (all_among (touched_refs ds))).1 r changed

at : {X : Type 0} (xs : List X) (i : ℕ) → i < length xs → (x : X) × (slice_get xs i ≡ Some x)
at [] i below = absurd (omega (arith, below))
at (x ∷ xs) zero below = (x, refl)
at (x ∷ xs) (suc i) below = at xs i (omega (arith, below))

tells : (guards : List Guard) (before after : List Edn) (rs : List ℕ) → AllByRecursion (λ r. (r < length guards) × (r < length before) × (r < length after)) rs → Tell guards before after rs (notices guards before after rs)
tells guards before after [] here = refl
tells guards before after (r ∷ rs) here =
    let guard = at guards r here.0.0 in
    let old = at before r here.0.1 in
    let new = at after r here.0.2 in (
      guard.0,
      old.0,
      new.0,
      notices guards before after rs,
      guard.1,
      old.1,
      new.1,
      ap (λ l. l ++ notices guards before after rs)
          (ap (λ o. notices_if_here r (keys_if_here (slice_get guards r)) o (slice_get after r)) old.1
          ∙ (ap (λ o. notices_if_here r (keys_if_here (slice_get guards r)) (Some old.0) o) new.1
          ∙ ap (λ o. notices_if_here r (keys_if_here o) (Some old.0) (Some new.0)) guard.1)),
      tells guards before after rs here.1,
    )

pub notices_mean : NoticesMean
notices_mean = record {
  rising = λ dones. touched_rises [] dones tt;
  changed = λ dones r. (changed_of dones r, changed_among dones r);
  told = tells;
}
