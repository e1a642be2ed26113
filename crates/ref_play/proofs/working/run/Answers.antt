use Rattle.std.proofs.Common.{None, Some, ap, refl, sym, ◌∙◌}
use Rattle.ref_agents.specs.Jobs.{JobSeen}
use Rattle.ref_play.specs.Present.{put}
use Rattle.ref_play.specs.Sims.{held_seen, jobs_of, present}
use Rattle.ref_play.proofs.WorkDone.{left_none, run_busy, run_done, run_refused}
use Rattle.ref_play.proofs.working.run.Goals as goal

pub put-requires-clause-none : goal.put-requires-clause-none
put-requires-clause-none g c = left_none (jobs_of c.args.jobs.now) (jobs_of c.take.new.self) c.args.actor (c.in-Some.ensures.takes refl)

pub put-requires-in-Ok-clause-none : goal.put-requires-in-Ok-clause-none
put-requires-in-Ok-clause-none g c = left_none (jobs_of c.args.jobs.now) (jobs_of c.take.new.self) c.args.actor (c.in-Some.ensures.takes refl)

pub put-requires-in-Err-clause-none : goal.put-requires-in-Err-clause-none
put-requires-in-Err-clause-none g c = left_none (jobs_of c.args.jobs.now) (jobs_of c.take.new.self) c.args.actor (c.in-Some.ensures.takes refl)

pub returns-in-Ran : goal.returns-in-Ran
returns-in-Ran g c = λ s.
    let now = present (record s { jobs = c.args.jobs.now }) in
    run_busy g.M.Meaning.means (g.F.Functions.knows c.args.funs.now) now (jobs_of c.args.jobs.now) (jobs_of c.take.new.self) (jobs_of c.put.new.self) c.args.actor refl (c.in-Some.ensures.takes refl)
    c.in-Ran.ran.job c.in-Ran.ran.outcome (sym c.in-Some.ensures.was ∙ ap Some (sym c.held.view_is ∙ ap held_seen c.in-Ran.is)) c.put.ensures

pub returns-in-Ok : goal.returns-in-Ok
returns-in-Ok g c = λ s.
    let now = present (record s { jobs = c.args.jobs.now }) in
    let did = c.in-Ok.ensures in
    let ran = c.in-Ok.ran in
    let back = c.put-in-Ok.ensures ∙ ap (λ (j : JobSeen). put (jobs_of c.take.new.self) c.args.actor (Some (record { job = j; outcome = Some ran.outcome }))) did.ok in
    run_done g.M.Meaning.means (g.F.Functions.knows c.args.funs.now) now (jobs_of c.args.jobs.now) (jobs_of c.take.new.self) (jobs_of c.put-in-Ok.new.self) c.args.actor refl (c.in-Some.ensures.takes refl)
    c.in-Taken.job ran.outcome (sym c.in-Some.ensures.was ∙ ap Some (sym c.held.view_is ∙ ap held_seen c.in-Taken.is)) did.known did.outcome back

pub returns-in-Err : goal.returns-in-Err
returns-in-Err g c = λ s.
    let now = present (record s { jobs = c.args.jobs.now }) in
    let did = c.in-Err.ensures in
    let back = c.put-in-Err.ensures ∙ ap (λ (j : JobSeen). put (jobs_of c.take.new.self) c.args.actor (Some (record { job = j; outcome = None }))) did.back in
    run_refused g.M.Meaning.means (g.F.Functions.knows c.args.funs.now) now (jobs_of c.args.jobs.now) (jobs_of c.take.new.self) (jobs_of c.put-in-Err.new.self) c.args.actor refl (c.in-Some.ensures.takes refl)
    c.in-Taken.job c.in-Err.fault (sym c.in-Some.ensures.was ∙ ap Some (sym c.held.view_is ∙ ap held_seen c.in-Taken.is)) did.fault did.lacks did.memory back
