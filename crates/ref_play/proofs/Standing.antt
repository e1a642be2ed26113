-- Each event that is served is a step of every machine that has seen what is kept.
use Rattle.std.proofs.Common.{◌≡◌, ℕ, ◌+◌, List, [], ◌∷◌, ◌++◌, length, length-append, Ok, refl, sym, ap, subst, ◌∙◌, arith}
use Rattle.ref_fun.specs.Calls.{Known}
use Rattle.ref_fun.specs.Meaning.{Means}
use Rattle.ref_fun.specs.Rule.{Accepts}
use Rattle.ref_log.specs.FoldLaws.{replay_from-both}
use Rattle.ref_log.specs.Replay.{point_after, replay, replay_from, state_of}
use Rattle.ref_world.specs.World.{IsWorld, point_of}
use Rattle.ref_play.specs.Machine.{Along, Folds, IsStep, Machine, Run, checkpoint_of, looked}
use Rattle.ref_play.specs.Present.{Acts, Present, put}
use Rattle.ref_play.specs.Runs.{IsLawful, IsServed}
use Rattle.ref_play.specs.Sims.{IsPlayed, IsSim, Serves, SimSeen, Stands, machine_of, present}
use Rattle.ref_play.specs.declared.events.Act.{Act}
use Rattle.ref_play.specs.declared.events.Event.{Event}
use Rattle.ref_play.specs.declared.events.Reply.{Reply}
use Rattle.ref_play.proofs.Laws.{carried_kept, jobs_kept, lawful_first, opens_kept, parts_kept, runs_have_laws, served_kept, steps_have_laws}

module _ (means : Means) (accepts : Accepts) (knows : Known) (old new : SimSeen) (actor : ℕ) (act : Act) (reply : Reply) (did : Serves means accepts knows old actor act reply new) (m : Machine) (stands : Stands means m old) where
  next : Machine
  next = record {
    base = m.base;
    gone = m.gone ++ did.went;
    log = new.world.log;
    now = present new;
    looks = put m.looks actor (looked means act reply (m.now.txs actor) (m.looks actor));
  }

  step : IsStep means accepts knows m (record { actor = actor; act = act }) reply next
  unfolding next
  step = record {
    added = did.added;
    went = did.went;
    acts = subst (λ x. Acts means accepts knows x actor act reply did.added (present new)) (sym stands.now) did.acts;
    folds = subst (λ (x : Present). Folds means knows x.point (point_after m.base m.gone) (replay means m.base m.gone) m.log (checkpoint_of act) reply did.went) (sym stands.now)
        (subst (λ x. Folds means knows (point_of old.world) x (replay means m.base m.gone) m.log (checkpoint_of act) reply did.went) stands.point
        (subst (λ x. Folds means knows (point_of old.world) old.world.base.point x m.log (checkpoint_of act) reply did.went) (sym stands.base)
        (subst (λ x. Folds means knows (point_of old.world) old.world.base.point (Ok (state_of old.world.base)) x (checkpoint_of act) reply did.went) (sym stands.log) did.folds)));
    base = refl;
    gone = refl;
    log = ap (λ l. l ++ did.added) stands.log ∙ did.logs.log;
    looks = refl;
  }

  all_gone : replay means m.base (m.gone ++ did.went) ≡ Ok (state_of new.world.base)
  all_gone =
      replay_from-both means m.base.point m.gone did.went (Ok (state_of m.base))
      ∙ (ap (replay_from means (m.base.point + length m.gone) did.went) stands.base
      ∙ (ap (λ p. replay_from means p did.went (Ok (state_of old.world.base))) (sym stands.point)
      ∙ did.logs.base))

  pub stands_on : IsServed knows m.now → (n : Machine) × IsStep means accepts knows m (record { actor = actor; act = act }) reply n × Stands means n new × IsServed knows n.now
  unfolding next
  stands_on served =
      let after = steps_have_laws means accepts knows m next (record { actor = actor; act = act }) reply stands.lawful served step in (
        next,
        step,
        record {
          now = refl;
          log = refl;
          point = omega (arith, did.logs.point, stands.point, length-append m.gone did.went);
          base = all_gone;
          lawful = after.1;
        },
        after.2,
      )

-- a run goes on by one step
pub run-append : (each : Machine → Event → Reply → Machine → Type 0) (es : List Event) (rs : List Reply) (e : Event) (r : Reply) (m k n : Machine) → Along each m es rs k → each k e r n → Along each m (es ++ e ∷ []) (rs ++ r ∷ []) n
run-append each [] [] e r m k n run one = (n, subst (λ x. each x e r n) run one, refl)
run-append each (x ∷ es) (y ∷ rs) e r m k n run one = (run.0, run.1, run-append each es rs e r run.0 k n run.2 one)
run-append each [] (y ∷ rs) e r m k n run one = absurd run
run-append each (x ∷ es) [] e r m k n run one = absurd run

-- a run to a machine that has seen what is kept
pub record Reaches (means : Means) (accepts : Accepts) (knows : Known) (m : Machine) (es : List Event) (rs : List Reply) (s : SimSeen) : Type 0 where
  pub last : Machine
  pub run : Run means accepts knows m es rs last
  pub stands : Stands means last s
  pub served : IsServed knows last.now

pub reaches_on : (means : Means) (accepts : Accepts) (knows : Known) (m : Machine) (es : List Event) (rs : List Reply) (old new : SimSeen) (e : Event) (r : Reply) → Reaches means accepts knows m es rs old
    → Serves means accepts knows old e.actor e.act r new → Reaches means accepts knows m (es ++ e ∷ []) (rs ++ r ∷ []) new
reaches_on means accepts knows m es rs old new e r so_far did =
    let on = stands_on means accepts knows old new e.actor e.act r did so_far.last so_far.stands so_far.served in
    record { last = on.0; run = run-append (IsStep means accepts knows) es rs e r m so_far.last on.0 so_far.run on.1; stands = on.2; served = on.3 }

pub reaches_first : (means : Means) (accepts : Accepts) (knows : Known) (m : Machine) (s : SimSeen) → Stands means m s → IsServed knows (present s) → Reaches means accepts knows m [] [] s
reaches_first means accepts knows m s stands served = record { last = m; run = refl; stands = stands; served = subst (IsServed knows) (sym stands.now) served }

pub played : (means : Means) (accepts : Accepts) (knows : Known) (m : Machine) (es : List Event) (rs : List Reply) (s : SimSeen) → IsLawful means m → IsServed knows m.now → Reaches means accepts knows m es rs s → IsPlayed means accepts knows m es rs s
played means accepts knows m es rs s lawful served so = record {
  last = so.last;
  run = so.run;
  laws = (runs_have_laws means accepts knows m so.last es rs lawful served so.run).0;
  stands = so.stands;
  served = so.served;
}

-- ---- what the type keeps

pub stands_first : (means : Means) (s : SimSeen) → IsWorld means s.world.base s.world.log s.world.refs s.world.atoms s.world.agents.unreleased → length s.world.refs.lasts ≡ length s.world.refs.values → IsSim means s → Stands means (machine_of s) s
stands_first means s world count is = record {
  now = refl;
  log = refl;
  point = omega arith;
  base = refl;
  lawful = lawful_first means (machine_of s) refl world refl count is.share is.opens is.jobs is.carried (λ a. refl);
}

pub sim_kept : (means : Means) (accepts : Accepts) (knows : Known) (old new : SimSeen) (actor : ℕ) (act : Act) (reply : Reply) → IsWorld means old.world.base old.world.log old.world.refs old.world.atoms old.world.agents.unreleased → length old.world.refs.lasts ≡ length old.world.refs.values
    → Serves means accepts knows old actor act reply new → IsSim means old → IsSim means new
sim_kept means accepts knows old new actor act reply world count did is = record {
  opens = opens_kept means accepts knows old.world.base old.world.log (present old) (present new) actor act reply did.added world refl count did.acts is.opens;
  jobs = jobs_kept means accepts knows old.world.base old.world.log (present old) (present new) actor act reply did.added world refl count did.acts is.jobs;
  carried = carried_kept means accepts knows old.world.base old.world.log (present old) (present new) actor act reply did.added world refl count did.acts is.opens is.jobs is.carried;
  share = parts_kept means accepts knows old.world.base old.world.log (present old) (present new) actor act reply did.added world refl count did.acts ∙ is.share;
}

pub sim_served : (means : Means) (accepts : Accepts) (knows : Known) (old new : SimSeen) (actor : ℕ) (act : Act) (reply : Reply) → IsWorld means old.world.base old.world.log old.world.refs old.world.atoms old.world.agents.unreleased → length old.world.refs.lasts ≡ length old.world.refs.values
    → Serves means accepts knows old actor act reply new → IsServed knows (present old) → IsServed knows (present new)
sim_served means accepts knows old new actor act reply world count did is = served_kept means accepts knows old.world.base old.world.log (present old) (present new) actor act reply did.added world refl count did.acts is
