use Rattle.std.proofs.Common.{Some, ap, refl, subst, sym, ◌∙◌}
use Rattle.ref_agents.specs.Jobs.{RanSeen}
use Rattle.ref_play.specs.Present.{WithJob, put}
use Rattle.ref_play.specs.Runs.{IsHeld}
use Rattle.ref_play.specs.Sims.{held_seen, jobs_of, present}
use Rattle.ref_play.proofs.WorkDone.{finish_busy, finish_refused, left_none}
use Rattle.ref_play.proofs.working.finish.Goals as goal

pub put-requires-clause-none : goal.put-requires-clause-none
put-requires-clause-none g c = left_none (jobs_of c.args.jobs.now) (jobs_of c.take.new.self) c.args.actor (c.in-Some.ensures.takes refl)

pub put-requires-in-Err-clause-none : goal.put-requires-in-Err-clause-none
put-requires-in-Err-clause-none g c = left_none (jobs_of c.args.jobs.now) (jobs_of c.take.new.self) c.args.actor (c.in-Some.ensures.takes refl)

pub returns-in-Taken-clause-acts : goal.returns-in-Taken-clause-acts
returns-in-Taken-clause-acts g c = λ s.
    let was = sym c.in-Some.ensures.was ∙ ap Some (sym c.held.view_is ∙ ap held_seen c.in-Taken.is) in
    finish_busy g.M.Meaning.accepts (g.F.Functions.knows c.args.funs.now) (present (record s { world = c.args.world.now; jobs = c.args.jobs.now })) (present (record s { world = c.args.world.now; jobs = c.put.new.self }))
    (jobs_of c.args.jobs.now) (jobs_of c.take.new.self) (jobs_of c.put.new.self) c.args.actor refl (c.in-Some.ensures.takes refl) c.in-Taken.job was c.put.ensures refl

pub returns-in-Err-clause-acts : goal.returns-in-Err-clause-acts
returns-in-Err-clause-acts g c = λ s.
    let means = g.M.Meaning.means in
    let did = c.in-Err.ensures in
    let ran = c.in-Ran.ran in
    let was = sym c.in-Some.ensures.was ∙ ap Some (sym c.held.view_is ∙ ap held_seen c.in-Ran.is) in
    let mine : IsHeld means c.args.world.now.agents.agents (record { job = ran.job; outcome = Some ran.outcome }) = subst (λ o. WithJob o (IsHeld means c.args.world.now.agents.agents) (Unit {0})) was (c.requires.held c.args.actor) in
    let back = c.put-in-Err.ensures ∙ ap (λ (r : RanSeen). put (jobs_of c.take.new.self) c.args.actor (Some (record { job = r.job; outcome = Some r.outcome }))) did.back in
    finish_refused g.M.Meaning.accepts (g.F.Functions.knows c.args.funs.now) (present (record s { world = c.args.world.now; jobs = c.args.jobs.now })) (present (record s { world = c.finish.new.self; jobs = c.put-in-Err.new.self }))
    (jobs_of c.args.jobs.now) (jobs_of c.take.new.self) (jobs_of c.put-in-Err.new.self) c.args.actor refl (c.in-Some.ensures.takes refl) ran.job ran.outcome c.in-Err.fault was back
    (ap (λ w. present (record s { world = w; jobs = c.put-in-Err.new.self })) did.err) mine.out did.foreign did.lacks did.memory
