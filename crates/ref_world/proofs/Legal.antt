-- Laws of every legal history.
use Rattle.std.proofs.Common.{◌≡◌, ◌≤◌, ◌-◌, ℕ, ◌+◌, Bool, true, false, nat_lt, List, [], ◌∷◌, ◌++◌, take, Result, Ok, Err, length, slice_get, refl, ap, sym, ◌∙◌, arith}
use Rattle.std.specs.Result.{is_ok}
use Rattle.std.proofs.lemmas.Bool.{ltb-false, ltb-true}
use Rattle.std.proofs.lemmas.List.{take_all}
use Rattle.ref_fun.specs.Meaning.{Means}
use Rattle.ref_log.specs.FoldLaws.{replay_from-both}
use Rattle.ref_log.specs.Laws.{replay-append, replay_from-Ok}
use Rattle.ref_log.specs.Replay.{and_step, replay, replay_from, state_of, step}
use Rattle.ref_log.specs.declared.entries.Entry.{Entry}
use Rattle.ref_log.specs.declared.faults.AuditFault.{AuditFault}
use Rattle.ref_log.specs.declared.states.Base.{Base}
use Rattle.ref_log.specs.declared.states.PlainState.{PlainState}
use Rattle.ref_world.specs.History.{Begins, IsCut, IsLegal, changed_in, point_in, refs_in, refs_of, state_in, upto, with_entry}
use Rattle.ref_world.specs.HistoryLaws.{begins_more, begins_then}
use Rattle.ref_world.specs.Seen.{HistorySeen}
use Rattle.ref_world.specs.Theorems.{AddsUp, BeginningsAreLegal, EntriesFollow, PartsAddUp, UnchangedStays}
use Rattle.ref_world.proofs.Cut.{cut_commits, cut_state, unchanged, upto_far, upto_known}

of_ok : {X F : Type 0} (r : Result X F) → is_ok r ≡ true → (x : X) × (r ≡ Ok x)
of_ok (Ok x) is = (x, refl)
of_ok (Err f) is = absurd cc

-- Where a history has a state, so has what begins it.
state_before : (means : Means) (one h : HistorySeen) (after : PlainState) → Begins one h → state_in means h ≡ Ok after → (before : PlainState) × (state_in means one ≡ Ok before)
state_before means one h after begins is =
    let whole : replay means one.start (one.entries ++ begins.more) ≡ Ok after =
    ap (λ (b : Base). replay means b (one.entries ++ begins.more)) (sym begins.start) ∙ (ap (replay means h.start) (sym begins.entries) ∙ is) in
    let parts : replay_from means (point_in one) begins.more (state_in means one) ≡ Ok after =
    sym (replay_from-both means one.start.point one.entries begins.more (Ok (state_of one.start))) ∙ whole in
    replay_from-Ok means (point_in one) begins.more (state_in means one) after parts

pub beginnings_are_legal : (means : Means) → BeginningsAreLegal means
beginnings_are_legal means one h begins legal =
    let after = of_ok (state_in means h) legal in
    ap is_ok (state_before means one h after.0 begins after.1).1

pub entries_follow : (means : Means) → EntriesFollow means
entries_follow means one h e begins legal =
    let whole = of_ok (state_in means h) legal in
    let after = state_before means (with_entry one e) h whole.0 begins whole.1 in
    let before = state_before means one h whole.0 (begins_then one (with_entry one e) h (begins_more one e) begins) whole.1 in (
      before.0,
      after.0,
      before.1,
      ap (and_step means (point_in one + 1) e) (sym before.1) ∙ (sym (replay-append means one.start one.entries e) ∙ after.1),
      after.1,
    )

pub unchanged_stays : (means : Means) → UnchangedStays means
unchanged_stays means h point r legal since = by (nat_lt (point_in h) point) refl
  where
    by : (b : Bool) → nat_lt (point_in h) point ≡ b → slice_get (refs_in means h) r ≡ slice_get (refs_in means (upto h point)) r
    by true past =
        let far = ltb-true (point_in h) point past in
        let all : take (point - h.start.point) h.entries ≡ h.entries = take_all (point - h.start.point) h.entries (omega (arith, far)) in
        ap (λ (l : List Entry). slice_get (refs_in means (record h { entries = l })) r) (sym all)
    by false here =
        let near = ltb-false (point_in h) point here in
        let after = of_ok (state_in means h) legal in
        let far = upto_far h point near in
        ap (λ s. slice_get (refs_of s) r) after.1 ∙ unchanged means (upto h point) h after.0 r (upto_known h point) after.1 (omega (arith, since, far))

pub parts_add_up : (means : Means) → PartsAddUp means
parts_add_up means h base log is = record { values = cut_state means h base log is; commits = cut_commits means h base log is }
