use Rattle.std.proofs.Common.{[], Ok, arith, not, ap, length, slice_get, sym, take, subst, ◌∙◌}
use Rattle.std.proofs.lemmas.Result.{err_from_is_err_and}
use Rattle.ref_log.specs.Replay.{after_dones, is_protected}
use Rattle.ref_tx.specs.Inner.{AreAnswers}
use Rattle.ref_refs.specs.Drafts.{DraftSeen}
use Rattle.ref_refs.specs.Commit.{alien_ref, changed_by, lacking, refused}
use Rattle.ref_refs.specs.Seen.{changed_at}
use Rattle.ref_refs.specs.declared.faults.CommitFault.TheVariants.{NoSuchFun}
use Rattle.ref_refs.proofs.Refs.{here_at, no_map}
use Rattle.ref_refs.proofs.Legal.{agrees_first, agrees_more, kept_at, one_more, refused_more, refused_now, served_at, stepped_more}
use Rattle.ref_refs.proofs.Moved.{moved_more}
use Rattle.ref_refs.proofs.placing.place_all.Goals as goal

pub loop-done-init : goal.loop-done-init
loop-done-init g c =
    let means = g.M.Meaning.means in
    let ds = c.dones-dones.result.now in
    let same = ap (λ (s : DraftSeen). s.values) c.over-after.ensures in
    record {
      stepped = λ at. ap (λ l. after_dones means ds at ds (Ok l)) same;
      moved = λ r. ap (λ (s : DraftSeen). changed_at s.lasts r) c.over-after.ensures;
      unrefused = ap (refused means ds) same;
      all = ap length same;
      base = ap (λ (s : DraftSeen). s.base) c.over-after.ensures;
      lasts = ap (λ (s : DraftSeen). length s.lasts) c.over-after.ensures;
      agrees = λ r protected. ap (λ l. slice_get l r) same ∙ agrees_first c.args.refs.now.values c.args.tx.now c.requires.here c.requires.unchanged r (ap (λ l. is_protected l r) (sym c.dones-dones.ensures.value) ∙ protected);
    }

pub place_one-requires-clause-here : goal.place_one-requires-clause-here
place_one-requires-clause-here g c =
    let here = here_at c.args.refs.now.values c.dones-dones.result.now c.loop-done.done-index c.done-item.result (ap (alien_ref c.args.refs.now.values) c.dones-dones.ensures.value ∙ c.requires.here) c.loop-done-test.true c.done-item.is in
    omega (arith, here, c.loop-done.invariant.all)

pub place_one-requires-clause-last : goal.place_one-requires-clause-last
place_one-requires-clause-last g c =
    let here = here_at c.args.refs.now.values c.dones-dones.result.now c.loop-done.done-index c.done-item.result (ap (alien_ref c.args.refs.now.values) c.dones-dones.ensures.value ∙ c.requires.here) c.loop-done-test.true c.done-item.is in
    omega (arith, here, c.loop-done.invariant.lasts, c.requires.all)

pub place_one-requires-clause-served : goal.place_one-requires-clause-served
place_one-requires-clause-served g c =
    let knows = (g.F.Functions.knows c.args.funs.now).funs in
    served_at knows c.dones-dones.result.now c.loop-done.done-index c.done-item.result (no_map NoSuchFun _ (ap (lacking knows) c.dones-dones.ensures.value ∙ c.requires.served)) c.loop-done-test.true c.done-item.is

pub place_one-requires-clause-kept : goal.place_one-requires-clause-kept
place_one-requires-clause-kept g c =
    let ds = c.dones-dones.result.now in
    let d = c.done-item.result in
    let are : AreAnswers g.M.Meaning.means c.args.tx.now.began [] ds = subst (AreAnswers g.M.Meaning.means c.args.tx.now.began []) (sym c.dones-dones.ensures.value) c.dones-dones.ensures.kept.answered in
    kept_at g.M.Meaning.means c.args.tx.now.began ds are c.loop-done.done-index d c.loop-done.after.values (not c.is_protected-is_free.result) c.loop-done-test.true c.done-item.is (ap not (c.is_protected-is_free.ensures ∙ ap (λ l. is_protected l d.r) (sym c.dones-dones.ensures.value))) c.loop-done.invariant.agrees

pub returns-in_err-place_one-clause-fault : goal.returns-in_err-place_one-clause-fault
returns-in_err-place_one-clause-fault g c =
    let means = g.M.Meaning.means in
    let ds = c.dones-dones.result.now in
    let p = err_from_is_err_and c.from_residual.result c.from_residual.ensures.1 in
    rw (p.1, p.2) (λ n. ap (λ l. refused means l c.args.refs.now.values) (sym c.dones-dones.ensures.value) ∙ refused_now means ds c.loop-done.done-index c.done-item.result c.loop-done.after.values (refused means ds c.args.refs.now.values) _ c.loop-done-test.true c.done-item.is (c.in_err-place_one.ensures.fault n) c.loop-done.invariant.unrefused)

pub loop-done-preserved : goal.loop-done-preserved
loop-done-preserved g c =
    let means = g.M.Meaning.means in
    let ds = c.dones-dones.result.now in
    let i = c.loop-done.done-index in
    let d = c.done-item.result in
    let before = c.loop-done.after.values in
    let after = c.place_one.new.refs.values in
    let free = not c.is_protected-is_free.result in
    let frees = ap not (c.is_protected-is_free.ensures ∙ ap (λ l. is_protected l d.r) (sym c.dones-dones.ensures.value)) in
    let so_far = c.loop-done.invariant in
    let one = c.in_ok-place_one.ensures in
    let are : AreAnswers means c.args.tx.now.began [] ds = subst (AreAnswers means c.args.tx.now.began []) (sym c.dones-dones.ensures.value) c.dones-dones.ensures.kept.answered in
    record {
      stepped = λ at. stepped_more means ds at i d before after (after_dones means ds at ds (Ok c.args.refs.now.values)) free c.loop-done-test.true c.done-item.is frees (one.ok at) (so_far.stepped at);
      unrefused = refused_more means ds i d before after (refused means ds c.args.refs.now.values) c.loop-done-test.true c.done-item.is one.unrefused so_far.unrefused;
      moved = λ r. moved_more c.args.refs.now.lasts c.loop-done.after.lasts c.place_one.new.refs.lasts c.args.at (take i ds) d so_far.moved one.moved r ∙ ap (λ l. changed_by c.args.refs.now.lasts c.args.at l r) (sym (one_more ds i d c.loop-done-test.true c.done-item.is));
      all = one.all ∙ so_far.all;
      base = one.base ∙ so_far.base;
      lasts = one.lasts ∙ so_far.lasts;
      agrees = agrees_more means c.args.tx.now.began ds are i d before after free c.loop-done-test.true c.done-item.is frees so_far.agrees one.others one.answers;
    }
