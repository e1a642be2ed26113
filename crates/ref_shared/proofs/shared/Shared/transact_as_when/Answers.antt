use Rattle.std.proofs.Common.{rules, refl, subst, ap, arith, [], ◌∷◌, ◌∙◌, Ok, Err, inl, inr}
use Rattle.std.specs.Prelude.{is_some}
use Rattle.ref_world.specs.HistoryLaws.{begins_itself, begins_then}
use Rattle.ref_shared.specs.Commits.{HasCommitted}
use Rattle.ref_shared.specs.Waits.{IsCalledAgain}
use Rattle.ref_shared.proofs.Again.{again_earlier, again_later, not_ready, one_more, tried_more, tried_same}
use Rattle.ref_shared.proofs.Learned.{committed_then, later_itself, later_then, learned_twice}
use Rattle.ref_shared.proofs.Chains.{all_more, begun, called_later, entered_begins, final}
use Rattle.ref_shared.proofs.shared.Shared.transact_as_when.Goals as goal

pub loop-init : goal.loop-init
loop-init g c = record {
  body = c.requires.body;
  share = later_itself _;
  sink = refl;
  called = ([], refl, refl, search rules);
  room = c.requires.tries;
}

pub returns-in_default-clause-fault : goal.returns-in_default-clause-fault
returns-in_default-clause-fault g c =
    let so_far = c.loop.invariant.called in (
      so_far.0,
      record { called = called_later _ _ _ _ _ _ so_far.0 c.begin_as.ensures.learned.later.known so_far.1; few = omega (arith, so_far.2, c.loop.invariant.room); again = again_earlier _ so_far.0 (again_later _ _ so_far.0 c.begin_as.ensures.learned.later.known so_far.3) },
    )

pub returns-in-Err-clause-fault : goal.returns-in-Err-clause-fault
returns-in-Err-clause-fault g c =
    let so_far = c.loop.invariant.called in (
      record { began = _; answer = Err c.in-Err.e; left = _ },
      so_far.0,
      one_more _ _ _ _ _ _ _ _ _ _ _ c.begin_as.ensures.learned.later.known so_far.1 so_far.2 so_far.3 c.loop.invariant.room
          (record { fresh = c.in-Ok.ensures.fresh; called = (c.in-Err.ensures.does, begun _ _ _ _ _ c.begin_as.ensures.learned c.in-Ok.ensures.began (begins_itself _)) }),
      refl,
    )

pub returns-then-not-wait_past-clause-fault : goal.returns-then-not-wait_past-clause-fault
returns-then-not-wait_past-clause-fault g c =
    let so_far = c.loop.invariant.called in (
      record { began = _; answer = Ok c.in-Ok-run.answer; left = _ },
      so_far.0,
      one_more _ _ _ _ _ _ _ _ _ _ _ (begins_then _ _ _ c.begin_as.ensures.learned.later.known c.wait_past.ensures.learned.later.known) so_far.1 so_far.2 so_far.3 c.loop.invariant.room
          (record { fresh = c.in-Ok.ensures.fresh; called = (c.in-Ok-run.ensures.does, begun _ _ _ _ _ c.begin_as.ensures.learned c.in-Ok.ensures.began c.wait_past.ensures.learned.later.known) }),
      search rules,
      search rules,
    )

pub loop-preserved-in_default-answer : goal.loop-preserved-in_default-answer
loop-preserved-in_default-answer g c =
    let so_far = c.loop.invariant.called in
    record {
      body = c.in-Ok-run.ensures.may;
      share = later_then _ _ _ (later_then _ _ _ c.loop.invariant.share c.begin_as.ensures.learned.later) c.wait_past.ensures.learned.later;
      sink = search rules;
      called = (
        (record { began = _; answer = Ok c.in-Ok-run.answer; left = _ }) ∷ so_far.0,
        (_, called_later _ _ _ _ _ _ so_far.0 (begins_then _ _ _ c.begin_as.ensures.learned.later.known c.wait_past.ensures.learned.later.known) so_far.1, record { fresh = c.in-Ok.ensures.fresh; called = (c.in-Ok-run.ensures.does, begun _ _ _ _ _ c.begin_as.ensures.learned c.in-Ok.ensures.began c.wait_past.ensures.learned.later.known) }),
        tried_same _ _ (Ok c.in-Ok-run.answer) so_far.0 (ap is_some (not_ready _ c.in_default-answer.not-Some)) ∙ so_far.2,
        all_more (IsCalledAgain _) _ so_far.0 (inl (record { waits = ap Ok (not_ready _ c.in_default-answer.not-Some); later = search rules }))
            (again_later _ _ so_far.0 (begins_then _ _ _ c.begin_as.ensures.learned.later.known c.wait_past.ensures.learned.later.known) so_far.3),
      );
      room = c.loop.invariant.room;
    }

pub returns-in-Ok-commit-clause-ok : goal.returns-in-Ok-commit-clause-ok
returns-in-Ok-commit-clause-ok g c =
    let so_far = c.loop.invariant.called in
    record {
      call = record { began = _; answer = Ok c.in-Ok-run.answer; left = _ };
      earlier = so_far.0;
      calls = one_more _ _ _ _ _ _ _ _ _ _ _ (begins_then _ _ _ c.begin_as.ensures.learned.later.known (entered_begins _ _ _ _ _ c.in-Ok-commit.ensures.share.entered)) so_far.1 so_far.2 so_far.3 c.loop.invariant.room
          (record { fresh = c.in-Ok.ensures.fresh; called = (c.in-Ok-run.ensures.does, begun _ _ _ _ _ c.begin_as.ensures.learned c.in-Ok.ensures.began (entered_begins _ _ _ _ _ c.in-Ok-commit.ensures.share.entered)) });
      answered = search rules;
      landed = subst (λ t. HasCommitted g.M.Meaning.means c.args.stamp t c.in-Ok-commit.receipt.point c.args.share.now c.commit.new.share) (c.in-Ok-close.ensures ∙ c.tx.view_is)
          (committed_then _ _ _ _ _ _ _ _ c.loop.invariant.share c.begin_as.ensures.learned c.in-Ok-commit.ensures.share);
    }

pub returns-then-conflicts-tries-clause-fault : goal.returns-then-conflicts-tries-clause-fault
returns-then-conflicts-tries-clause-fault g c =
    let so_far = c.loop.invariant.called in (
      record { began = _; answer = Ok c.in-Ok-run.answer; left = _ },
      so_far.0,
      one_more _ _ _ _ _ _ _ _ _ _ _ (begins_then _ _ _ c.begin_as.ensures.learned.later.known c.in-Err-commit.ensures.learned.later.known) so_far.1 so_far.2 so_far.3 c.loop.invariant.room
          (record { fresh = c.in-Ok.ensures.fresh; called = (c.in-Ok-run.ensures.does, begun _ _ _ _ _ c.begin_as.ensures.learned c.in-Ok.ensures.began c.in-Err-commit.ensures.learned.later.known) }),
      search rules,
      refl,
      tried_more _ _ (Ok c.in-Ok-run.answer) so_far.0 (ap is_some c.in-Some-answer.is) ∙ omega (arith, so_far.2, c.if-conflicts-tries.true),
      search rules,
    )

pub returns-in-Memory-clause-fault : goal.returns-in-Memory-clause-fault
returns-in-Memory-clause-fault g c =
    let so_far = c.loop.invariant.called in (
      (record { began = _; answer = Ok c.in-Ok-run.answer; left = _ }) ∷ so_far.0,
      one_more _ _ _ _ _ _ _ _ _ _ _ (begins_then _ _ _ c.begin_as.ensures.learned.later.known c.in-Err-commit.ensures.learned.later.known) so_far.1 so_far.2 so_far.3 c.loop.invariant.room
          (record { fresh = c.in-Ok.ensures.fresh; called = (c.in-Ok-run.ensures.does, begun _ _ _ _ _ c.begin_as.ensures.learned c.in-Ok.ensures.began c.in-Err-commit.ensures.learned.later.known) }),
    )

pub returns-in_default-fault : goal.returns-in_default-fault
returns-in_default-fault g c =
    let so_far = c.loop.invariant.called in
    record {
      ok = tt;
      stamp = tt;
      fault = (
        record { began = _; answer = Ok c.in-Ok-run.answer; left = _ },
        so_far.0,
        one_more _ _ _ _ _ _ _ _ _ _ _ (begins_then _ _ _ c.begin_as.ensures.learned.later.known c.in-Err-commit.ensures.learned.later.known) so_far.1 so_far.2 so_far.3 c.loop.invariant.room
            (record { fresh = c.in-Ok.ensures.fresh; called = (c.in-Ok-run.ensures.does, begun _ _ _ _ _ c.begin_as.ensures.learned c.in-Ok.ensures.began c.in-Err-commit.ensures.learned.later.known) }),
        ap is_some c.in-Some-answer.is,
        final _ c.in_default-fault.not-Conflict c.in_default-fault.not-Memory,
      );
      learned = learned_twice _ _ _ _ _ c.loop.invariant.share c.begin_as.ensures.learned c.in-Err-commit.ensures.learned;
      told = tt;
      untold = search rules;
      may = c.in-Ok-run.ensures.may;
    }

pub loop-preserved : goal.loop-preserved
loop-preserved g c =
    let so_far = c.loop.invariant.called in
    let is_value = ap is_some c.in-Some-answer.is in
    record {
      body = c.in-Ok-run.ensures.may;
      share = later_then _ _ _ (later_then _ _ _ c.loop.invariant.share c.begin_as.ensures.learned.later) c.in-Err-commit.ensures.learned.later;
      sink = search rules;
      called = (
        (record { began = _; answer = Ok c.in-Ok-run.answer; left = _ }) ∷ so_far.0,
        (_, called_later _ _ _ _ _ _ so_far.0 (begins_then _ _ _ c.begin_as.ensures.learned.later.known c.in-Err-commit.ensures.learned.later.known) so_far.1, record { fresh = c.in-Ok.ensures.fresh; called = (c.in-Ok-run.ensures.does, begun _ _ _ _ _ c.begin_as.ensures.learned c.in-Ok.ensures.began c.in-Err-commit.ensures.learned.later.known) }),
        tried_more _ _ (Ok c.in-Ok-run.answer) so_far.0 is_value ∙ omega (arith, so_far.2),
        all_more (IsCalledAgain _) _ so_far.0
            (inr (record { answered = is_value; conflict = record { conflict = c.in-Conflict.conflict; at = _; begins = begins_itself _; fits = search rules } }))
            (again_later _ _ so_far.0 (begins_then _ _ _ c.begin_as.ensures.learned.later.known c.in-Err-commit.ensures.learned.later.known) so_far.3),
      );
      room = omega (arith, c.loop.invariant.room, c.if-conflicts-tries.false);
    }

pub returns-in_default-close-clause-fault : goal.returns-in_default-close-clause-fault
returns-in_default-close-clause-fault g c =
    let so_far = c.loop.invariant.called in (
      (record { began = _; answer = Ok c.in-Ok-run.answer; left = _ }) ∷ so_far.0,
      one_more _ _ _ _ _ _ _ _ _ _ _ c.begin_as.ensures.learned.later.known so_far.1 so_far.2 so_far.3 c.loop.invariant.room
          (record { fresh = c.in-Ok.ensures.fresh; called = (c.in-Ok-run.ensures.does, begun _ _ _ _ _ c.begin_as.ensures.learned c.in-Ok.ensures.began (begins_itself _)) }),
    )
