use Rattle.std.proofs.Common.{[], ◌++◌, ◌∷◌, ◌∙◌, ap, arith, subst, sym, take}
use Rattle.std.proofs.lemmas.List.{take_all, take_more}
use Rattle.ref_play.specs.Runs.{IsServed}
use Rattle.ref_play.specs.Sims.{SimSeen, Stands, present}
use Rattle.ref_play.proofs.Standing.{Reaches, played, reaches_first, reaches_on, sim_kept, sim_served}
use Rattle.ref_play.proofs.sims.Sim.play.Goals as goal

pub loop-event-init : goal.loop-event-init
loop-event-init g c =
    let means = g.M.Meaning.means in
    let accepts = g.M.Meaning.accepts in
    let knows = g.F.Functions.knows c.args.funs.now in
    let s : SimSeen = record { world = c.self.inside.booked.world; share = c.self.inside.share; slots = c.self.inside.actors; jobs = c.self.inside.jobs } in
    let served = subst (λ (x : SimSeen). IsServed knows (present x)) (sym c.self.view_is) c.requires.served in
    record {
      run = λ m stands. subst (λ rs. Reaches means accepts knows m [] rs s) (sym c.in_ok-replies.ensures.items)
          (reaches_first means accepts knows m s (subst (Stands means m) (sym c.self.view_is) stands) served);
      is = c.self.invariant;
      served = served;
      count = c.in_ok-replies.ensures.len;
      room = omega (arith, c.in_ok-replies.ensures.capacity);
    }

pub loop-event-preserved : goal.loop-event-preserved
loop-event-preserved g c =
    let means = g.M.Meaning.means in
    let accepts = g.M.Meaning.accepts in
    let knows = g.F.Functions.knows c.args.funs.now in
    let es = c.args.events.now in
    let i = c.loop-event.event-index in
    let e = c.event-item.result in
    let old : SimSeen = record { world = c.loop-event.self-inside.booked.world; share = c.loop-event.self-inside.share; slots = c.loop-event.self-inside.actors; jobs = c.loop-event.self-inside.jobs } in
    let new : SimSeen = record { world = c.serve-reply.new.booked.world; share = c.serve-reply.new.share; slots = c.serve-reply.new.actors; jobs = c.serve-reply.new.jobs } in
    let more = take_more es i e c.loop-event-test.true ∙ ap (λ x. take i es ++ x ∷ []) (sym c.event-item.is) in
    record {
      run = λ m stands.
          let so = c.loop-event.invariant.run m stands in
          let on = reaches_on means accepts knows m (take i es) c.loop-event.replies.items old new e c.serve-reply.result so c.serve-reply.ensures in
          subst (λ xs. Reaches means accepts knows m xs c.push_reserved.new.self.items new) (sym more)
          (subst (λ rs. Reaches means accepts knows m (take i es ++ e ∷ []) rs new) (sym c.push_reserved.ensures.items) on);
      is = sim_kept means accepts knows old new e.actor e.act c.serve-reply.result c.always_so.ensures.world c.always_so.ensures.count c.serve-reply.ensures c.loop-event.invariant.is;
      served = sim_served means accepts knows old new e.actor e.act c.serve-reply.result c.always_so.ensures.world c.always_so.ensures.count c.serve-reply.ensures c.loop-event.invariant.served;
      count = omega (arith, c.push_reserved.ensures.len, c.loop-event.invariant.count);
      room = omega (arith, c.push_reserved.ensures.capacity, c.loop-event.invariant.room);
    }

pub returns : goal.returns
returns g c =
    let means = g.M.Meaning.means in
    let accepts = g.M.Meaning.accepts in
    let knows = g.F.Functions.knows c.args.funs.now in
    let es = c.args.events.now in
    let s : SimSeen = record { world = c.loop-event.self-inside.booked.world; share = c.loop-event.self-inside.share; slots = c.loop-event.self-inside.actors; jobs = c.loop-event.self-inside.jobs } in
    record {
      run = λ m stands.
          let all = take_all c.loop-event.event-index es c.loop-event-test.false in
          played means accepts knows m es c.loop-event.replies.items s stands.lawful (subst (IsServed knows) (sym stands.now) c.requires.served)
          (subst (λ xs. Reaches means accepts knows m xs c.loop-event.replies.items s) all (c.loop-event.invariant.run m stands));
      served = c.loop-event.invariant.served;
      err = tt;
      memory = tt;
    }
