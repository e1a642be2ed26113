use Rattle.std.proofs.Common.{rules, refl, subst, arith, [], ◌∷◌, ◌∙◌, Ok, Err}
use Rattle.ref_world.specs.HistoryLaws.{begins_itself, begins_then}
use Rattle.ref_shared.specs.Bodies.{IsRetried}
use Rattle.ref_shared.specs.Commits.{HasCommitted}
use Rattle.ref_shared.proofs.Learned.{committed_then, later_itself, later_then, learned_twice}
use Rattle.ref_shared.proofs.Chains.{all_earlier, all_more, begun, called_later, entered_begins, final, one_more, retried_later}
use Rattle.ref_shared.proofs.shared.Shared.transact_as.Goals as goal

pub returns-in-Err-clause-fault : goal.returns-in-Err-clause-fault
returns-in-Err-clause-fault g c =
    let so_far = c.loop-attempt.invariant.called in (
      record { began = _; answer = Err c.in-Err.e; left = _ },
      so_far.0,
      one_more _ _ _ _ _ _ _ _ _ _ _ c.begin_as.ensures.learned.later.known so_far.1 so_far.2 so_far.3 c.loop-attempt.invariant.room
          (record { fresh = c.in-Ok.ensures.fresh; called = (c.in-Err.ensures.does, begun _ _ _ _ _ c.begin_as.ensures.learned c.in-Ok.ensures.began (begins_itself _)) }),
      refl,
    )

pub returns-in-Ok-commit-clause-ok : goal.returns-in-Ok-commit-clause-ok
returns-in-Ok-commit-clause-ok g c =
    let so_far = c.loop-attempt.invariant.called in
    record {
      call = record { began = _; answer = Ok c.in-Ok-run.answer; left = _ };
      earlier = so_far.0;
      calls = one_more _ _ _ _ _ _ _ _ _ _ _ (begins_then _ _ _ c.begin_as.ensures.learned.later.known (entered_begins _ _ _ _ _ c.in-Ok-commit.ensures.share.entered)) so_far.1 so_far.2 so_far.3 c.loop-attempt.invariant.room
          (record { fresh = c.in-Ok.ensures.fresh; called = (c.in-Ok-run.ensures.does, begun _ _ _ _ _ c.begin_as.ensures.learned c.in-Ok.ensures.began (entered_begins _ _ _ _ _ c.in-Ok-commit.ensures.share.entered)) });
      answered = refl;
      landed = subst (λ t. HasCommitted g.M.Meaning.means c.args.stamp t c.in-Ok-commit.receipt.point c.args.share.now c.commit.new.share) (c.in-Ok-close.ensures ∙ c.tx.view_is)
          (committed_then _ _ _ _ _ _ _ _ c.loop-attempt.invariant.share c.begin_as.ensures.learned c.in-Ok-commit.ensures.share);
    }

pub returns-then-attempt-tries-clause-fault : goal.returns-then-attempt-tries-clause-fault
returns-then-attempt-tries-clause-fault g c =
    let so_far = c.loop-attempt.invariant.called in (
      record { began = _; answer = Ok c.in-Ok-run.answer; left = _ },
      so_far.0,
      one_more _ _ _ _ _ _ _ _ _ _ _ (begins_then _ _ _ c.begin_as.ensures.learned.later.known c.in-Err-commit.ensures.learned.later.known) so_far.1 so_far.2 so_far.3 c.loop-attempt.invariant.room
          (record { fresh = c.in-Ok.ensures.fresh; called = (c.in-Ok-run.ensures.does, begun _ _ _ _ _ c.begin_as.ensures.learned c.in-Ok.ensures.began c.in-Err-commit.ensures.learned.later.known) }),
      refl,
      refl,
      omega (arith, so_far.2, c.if-attempt-tries.true),
      search rules,
    )

pub loop-attempt-preserved : goal.loop-attempt-preserved
loop-attempt-preserved g c =
    let so_far = c.loop-attempt.invariant.called in
    record {
      body = c.in-Ok-run.ensures.may;
      share = later_then _ _ _ (later_then _ _ _ c.loop-attempt.invariant.share c.begin_as.ensures.learned.later) c.in-Err-commit.ensures.learned.later;
      sink = search rules;
      called = (
        (record { began = _; answer = Ok c.in-Ok-run.answer; left = _ }) ∷ so_far.0,
        (_, called_later _ _ _ _ _ _ so_far.0 (begins_then _ _ _ c.begin_as.ensures.learned.later.known c.in-Err-commit.ensures.learned.later.known) so_far.1, record { fresh = c.in-Ok.ensures.fresh; called = (c.in-Ok-run.ensures.does, begun _ _ _ _ _ c.begin_as.ensures.learned c.in-Ok.ensures.began c.in-Err-commit.ensures.learned.later.known) }),
        omega (arith, so_far.2),
        all_more (IsRetried _) _ so_far.0
            (record { answered = refl; conflict = record { conflict = c.in-Conflict.conflict; at = _; begins = begins_itself _; fits = search rules } })
            (retried_later _ _ so_far.0 (begins_then _ _ _ c.begin_as.ensures.learned.later.known c.in-Err-commit.ensures.learned.later.known) so_far.3),
      );
      room = omega (arith, c.loop-attempt.invariant.room, c.if-attempt-tries.false);
    }

pub returns-in-Memory-clause-fault : goal.returns-in-Memory-clause-fault
returns-in-Memory-clause-fault g c =
    let so_far = c.loop-attempt.invariant.called in (
      (record { began = _; answer = Ok c.in-Ok-run.answer; left = _ }) ∷ so_far.0,
      one_more _ _ _ _ _ _ _ _ _ _ _ (begins_then _ _ _ c.begin_as.ensures.learned.later.known c.in-Err-commit.ensures.learned.later.known) so_far.1 so_far.2 so_far.3 c.loop-attempt.invariant.room
          (record { fresh = c.in-Ok.ensures.fresh; called = (c.in-Ok-run.ensures.does, begun _ _ _ _ _ c.begin_as.ensures.learned c.in-Ok.ensures.began c.in-Err-commit.ensures.learned.later.known) }),
    )

pub returns-in_default-fault-clause-fault : goal.returns-in_default-fault-clause-fault
returns-in_default-fault-clause-fault g c =
    let so_far = c.loop-attempt.invariant.called in (
      record { began = _; answer = Ok c.in-Ok-run.answer; left = _ },
      so_far.0,
      one_more _ _ _ _ _ _ _ _ _ _ _ (begins_then _ _ _ c.begin_as.ensures.learned.later.known c.in-Err-commit.ensures.learned.later.known) so_far.1 so_far.2 so_far.3 c.loop-attempt.invariant.room
          (record { fresh = c.in-Ok.ensures.fresh; called = (c.in-Ok-run.ensures.does, begun _ _ _ _ _ c.begin_as.ensures.learned c.in-Ok.ensures.began c.in-Err-commit.ensures.learned.later.known) }),
      refl,
      final _ c.in_default-fault.not-Conflict c.in_default-fault.not-Memory,
    )

pub returns-in_default-clause-fault : goal.returns-in_default-clause-fault
returns-in_default-clause-fault g c =
    let so_far = c.loop-attempt.invariant.called in (
      so_far.0,
      record { called = called_later _ _ _ _ _ _ so_far.0 c.begin_as.ensures.learned.later.known so_far.1; few = omega (arith, so_far.2, c.loop-attempt.invariant.room); retried = all_earlier _ so_far.0 (retried_later _ _ so_far.0 c.begin_as.ensures.learned.later.known so_far.3) },
    )

pub returns-in_default-close-clause-fault : goal.returns-in_default-close-clause-fault
returns-in_default-close-clause-fault g c =
    let so_far = c.loop-attempt.invariant.called in (
      (record { began = _; answer = Ok c.in-Ok-run.answer; left = _ }) ∷ so_far.0,
      one_more _ _ _ _ _ _ _ _ _ _ _ c.begin_as.ensures.learned.later.known so_far.1 so_far.2 so_far.3 c.loop-attempt.invariant.room
          (record { fresh = c.in-Ok.ensures.fresh; called = (c.in-Ok-run.ensures.does, begun _ _ _ _ _ c.begin_as.ensures.learned c.in-Ok.ensures.began (begins_itself _)) }),
    )

pub loop-attempt-init : goal.loop-attempt-init
loop-attempt-init g c = record {
  body = c.requires.body;
  share = later_itself _;
  sink = refl;
  called = ([], refl, refl, search rules);
  room = c.requires.tries;
}

pub returns-then-attempt-tries-clause-learned : goal.returns-then-attempt-tries-clause-learned
returns-then-attempt-tries-clause-learned g c = learned_twice _ _ _ _ _ c.loop-attempt.invariant.share c.begin_as.ensures.learned c.in-Err-commit.ensures.learned

pub returns-in-Memory-clause-learned : goal.returns-in-Memory-clause-learned
returns-in-Memory-clause-learned g c = learned_twice _ _ _ _ _ c.loop-attempt.invariant.share c.begin_as.ensures.learned c.in-Err-commit.ensures.learned

pub returns-in_default-fault-clause-learned : goal.returns-in_default-fault-clause-learned
returns-in_default-fault-clause-learned g c = learned_twice _ _ _ _ _ c.loop-attempt.invariant.share c.begin_as.ensures.learned c.in-Err-commit.ensures.learned
