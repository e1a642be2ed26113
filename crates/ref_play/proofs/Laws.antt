-- Each step of a lawful machine has the laws, and leaves it lawful.
use Rattle.ref_play.specs.Present.{Acts}
use Rattle.ref_play.specs.declared.events.Act.{Act}
use Rattle.std.proofs.Common.{◌≡◌, ℕ, not, Bool, ◌⊎◌, inl, inr, List, [], ◌∷◌, ◌++◌, length, length-append, Option, None, Some, Ok, refl, sym, ap, subst, ◌∙◌, arith}
use Rattle.std.specs.List.{AllByRecursion}
use Rattle.std.specs.Option.{option_map, option_or}
use Rattle.std.proofs.lemmas.Bool.{cases_eq}
use Rattle.std.proofs.lemmas.List.{append_assoc, append-nil, take_all}
use Rattle.std.proofs.lemmas.List.Folds.{find-append}
use Rattle.ref_value.specs.Edn.{Edn}
use Rattle.ref_fun.specs.Calls.{Known}
use Rattle.ref_fun.specs.Meaning.{Means}
use Rattle.ref_fun.specs.Rule.{Accepts}
use Rattle.ref_log.specs.Replay.{codes_of, missing, point_after}
use Rattle.ref_log.specs.declared.entries.Entry.{Entry}
use Rattle.ref_log.specs.declared.states.Base.{Base}
use Rattle.ref_log.specs.declared.operations.Done.{Done}
use Rattle.ref_log.specs.declared.operations.Op.{Op}
use Rattle.ref_log.specs.declared.operations.Op.TheVariants.{Set, Alter, Commute, Ensure}
use Rattle.ref_tx.specs.Inner.{answer_of, called, inner_value, refusal, value_after, with_done}
use Rattle.ref_tx.specs.Seen.{TxSeen}
use Rattle.ref_refs.specs.Commit.{commuted_code, commuted_codes, lacking}
use Rattle.ref_refs.specs.declared.faults.CommitFault.TheVariants as commits
use Rattle.ref_play.specs.Machine.{IsStep, Look, Machine, history, look_at, looked}
use Rattle.ref_play.specs.Present.{Present, WithTx, begun}
use Rattle.ref_play.specs.Laws.{HasLaws, IsHeard, IsTold, RunsHaveLaws, StepsHaveLaws, is_refused, with_all_counted}
use Rattle.ref_tx.specs.declared.faults.TxFault.TheVariants as txs
use Rattle.ref_world.specs.declared.faults.CheckpointFault.{CheckpointFault}
use Rattle.ref_log.specs.Replay.{replay}
use Rattle.std.proofs.Common.{false, Result, Err, OnErr}
use Rattle.ref_play.specs.Machine.{Folds, checkpoint_of}
use Rattle.ref_play.specs.declared.events.Act.TheVariants as acts
use Rattle.ref_play.specs.declared.events.Reply.TheVariants as replies
use Rattle.ref_play.specs.Runs.{AreCarried, AreJobs, AreOpen, IsLawful, IsLook, IsOpen, IsServed}
use Rattle.ref_world.specs.Shares.{all_parts}
use Rattle.ref_world.specs.World.{IsWorld, with_tally}
use Rattle.ref_play.specs.declared.events.Event.{Event}
use Rattle.ref_play.specs.declared.events.Reply.{Reply}
use Rattle.ref_play.proofs.Acting.{Acted, Goes, acted, adds, closes, grows, hears, opens, stays}
use Rattle.ref_play.proofs.Puts.{put_here, put_other}
use Rattle.ref_tx.specs.Inner.{with_sent}
use Rattle.ref_fun.specs.declared.actions.Action.{Action}
use Rattle.ref_fun.specs.Actions.{absent_agent}
use Rattle.std.proofs.Common.{true}
use Rattle.ref_play.proofs.Receivers.{none_more}
use Rattle.ref_play.proofs.Grows.{answer-Ok, called-Ok, looks_grown, open_grown}
use Rattle.ref_play.proofs.Later.{IsLater, open_later}
use Rattle.ref_play.proofs.Left.{left}

-- ---- open transactions

open_begun : (means : Means) (now : Present) → IsOpen means now (begun now)
open_begun means now = record {
  is = record { answered = tt; tallied = refl };
  point = omega arith;
  count = omega arith;
  same = λ r before. refl;
  tally = inl refl;
  agents = omega arith;
  sends = refl;
}

open_sent : (means : Means) (now : Present) (t : TxSeen) (g : ℕ) (action : Action) → absent_agent t.agents g action ≡ None → IsOpen means now t → IsOpen means now (with_sent t g action)
open_sent means now t g action known is = record {
  is = record { answered = is.is.answered; tallied = is.is.tallied };
  point = is.point;
  count = is.count;
  same = is.same;
  tally = is.tally;
  agents = is.agents;
  sends = none_more t.agents t.sends (record { agent = g; action = action }) is.sends known;
}

looks_sent : (means : Means) (t : TxSeen) (g : ℕ) (action : Action) (looks : List Look) → AllByRecursion (IsLook means t) looks → AllByRecursion (IsLook means (with_sent t g action)) looks
looks_sent means t g action [] are = tt
looks_sent means t g action (look ∷ looks) are = (are.0, looks_sent means t g action looks are.1)

-- the transaction of the actor, after its act
opened : (means : Means) (knows : Known) (old new : Present) (a : ℕ) (tx : Option TxSeen) (looks heard : List Look) → IsLater old new → WithTx (old.txs a) (IsOpen means old) (Unit {0}) → Goes means knows old a tx looks heard → WithTx tx (IsOpen means new) (Unit {0})
opened means knows old new a tx looks heard later was (stays same l) = subst (λ o. WithTx o (IsOpen means new) (Unit {0})) (sym same) (others (old.txs a) was) where
  others : (o : Option TxSeen) → WithTx o (IsOpen means old) (Unit {0}) → WithTx o (IsOpen means new) (Unit {0})
  others None is = tt
  others (Some t) is = open_later means old new t later is
opened means knows old new a tx looks heard later was (closes none) = subst (λ o. WithTx o (IsOpen means new) (Unit {0})) (sym none) tt
opened means knows old new a tx looks heard later was (opens fresh l) = subst (λ o. WithTx o (IsOpen means new) (Unit {0})) (sym fresh) (open_later means old new (begun old) later (open_begun means old))
opened means knows old new a tx looks heard later was (grows t r op v is answers more l) =
    let before : IsOpen means old t = subst (λ o. WithTx o (IsOpen means old) (Unit {0})) is was in
    subst (λ o. WithTx o (IsOpen means new) (Unit {0})) (sym more) (open_later means old new (with_done t r op v) later (open_grown means old knows.funs t r op v answers before))
opened means knows old new a tx looks heard later was (adds t g action is known more l) =
    let before : IsOpen means old t = subst (λ o. WithTx o (IsOpen means old) (Unit {0})) is was in
    subst (λ o. WithTx o (IsOpen means new) (Unit {0})) (sym more) (open_later means old new (with_sent t g action) later (open_sent means old t g action known before))
opened means knows old new a tx looks heard later was (hears t r is same l) =
    let before : IsOpen means old t = subst (λ o. WithTx o (IsOpen means old) (Unit {0})) is was in
    subst (λ o. WithTx o (IsOpen means new) (Unit {0})) (sym same) (open_later means old new t later before)

-- what it was told
Heard : Means → Option TxSeen → List Look → Type 0
Heard means tx looks = WithTx tx (λ t. AllByRecursion (IsLook means t) looks) (Unit {0})

heard_after : (means : Means) (knows : Known) (old : Present) (a : ℕ) (tx : Option TxSeen) (looks heard : List Look) → Heard means (old.txs a) looks → Goes means knows old a tx looks heard → Heard means tx heard
unfolding Heard
heard_after means knows old a tx looks heard was (stays same l) = subst (λ o. WithTx o (λ t. AllByRecursion (IsLook means t) heard) (Unit {0})) (sym same) (subst (λ ls. WithTx (old.txs a) (λ t. AllByRecursion (IsLook means t) ls) (Unit {0})) (sym l) was)
heard_after means knows old a tx looks heard was (closes none) = subst (λ o. WithTx o (λ t. AllByRecursion (IsLook means t) heard) (Unit {0})) (sym none) tt
heard_after means knows old a tx looks heard was (opens fresh l) = subst (λ o. WithTx o (λ t. AllByRecursion (IsLook means t) heard) (Unit {0})) (sym fresh) (subst (λ ls. AllByRecursion (IsLook means (begun old)) ls) (sym l) tt)
heard_after means knows old a tx looks heard was (grows t r op v is answers more l) =
    let before : AllByRecursion (IsLook means t) looks = subst (λ o. WithTx o (λ x. AllByRecursion (IsLook means x) looks) (Unit {0})) is was in
    subst (λ o. WithTx o (λ x. AllByRecursion (IsLook means x) heard) (Unit {0})) (sym more) (subst (λ ls. AllByRecursion (IsLook means (with_done t r op v)) ls) (sym l) (looks_grown means t r op v looks before))
heard_after means knows old a tx looks heard was (adds t g action is known more l) =
    let before : AllByRecursion (IsLook means t) looks = subst (λ o. WithTx o (λ x. AllByRecursion (IsLook means x) looks) (Unit {0})) is was in
    subst (λ o. WithTx o (λ x. AllByRecursion (IsLook means x) heard) (Unit {0})) (sym more) (subst (λ ls. AllByRecursion (IsLook means (with_sent t g action)) ls) (sym l) (looks_sent means t g action looks before))
heard_after means knows old a tx looks heard was (hears t r is same l) =
    let before : AllByRecursion (IsLook means t) looks = subst (λ o. WithTx o (λ x. AllByRecursion (IsLook means x) looks) (Unit {0})) is was in
    let here : IsLook means t (look_at means t r) = (omega arith, ap (λ ds. value_after means t.began ds r) (take_all (length t.dones) t.dones (omega arith))) in
    subst (λ o. WithTx o (λ x. AllByRecursion (IsLook means x) heard) (Unit {0})) (sym same) (subst (λ ls. AllByRecursion (IsLook means t) ls) (sym l) (here, before))

-- its functions stay known
commuted_within : (knows : ℕ → Bool) (op : Op) → missing knows (codes_of op) ≡ None → missing knows (commuted_code op) ≡ None
commuted_within knows (Set w) none = refl
commuted_within knows (Alter code args) none = refl
commuted_within knows (Commute code args) none = none
commuted_within knows Ensure none = refl

commuted-append : (ds : List Done) (d : Done) → commuted_codes (ds ++ d ∷ []) ≡ commuted_codes ds ++ commuted_code d.op
commuted-append [] d = append-nil (commuted_code d.op)
commuted-append (x ∷ ds) d = ap (λ l. commuted_code x.op ++ l) (commuted-append ds d) ∙ sym (append_assoc (commuted_code x.op) (commuted_codes ds) (commuted_code d.op))

mapped_none : {X Y : Type 0} (f : X → Y) (o : Option X) → option_map f o ≡ None → o ≡ None
mapped_none f None is = refl
mapped_none f (Some x) is = absurd cc

both_none : {X : Type 0} (first later : Option X) → first ≡ None → later ≡ None → option_or first later ≡ None
both_none None later a b = b
both_none (Some x) later a b = absurd cc

served_grown : (means : Means) (knows : Known) (t : TxSeen) (r : ℕ) (op : Op) (v : Edn) → answer_of means knows.funs t r op ≡ Ok v → lacking knows.funs t.dones ≡ None → lacking knows.funs (t.dones ++ (record { r = r; op = op; answer = v }) ∷ []) ≡ None
served_grown means knows t r op v answers before =
    let d : Done = record { r = r; op = op; answer = v } in
    let parts = answer-Ok (refusal t r op) (called means op (inner_value means t r) (missing knows.funs (codes_of op))) v answers in
    let has = called-Ok means op (inner_value means t r) (missing knows.funs (codes_of op)) v parts.1 in
    let none = both_none (missing knows.funs (commuted_codes t.dones)) (missing knows.funs (commuted_code op)) (mapped_none commits.NoSuchFun (missing knows.funs (commuted_codes t.dones)) before) (commuted_within knows.funs op has.0) in
    ap (option_map commits.NoSuchFun) (ap (missing knows.funs) (commuted-append t.dones d) ∙ (find-append (λ code. not (knows.funs code)) (commuted_codes t.dones) (commuted_code op) ∙ none))

Serves : Known → Option TxSeen → Type 0
Serves knows tx = WithTx tx (λ t. lacking knows.funs t.dones ≡ None) (Unit {0})

served_after : (means : Means) (knows : Known) (old : Present) (a : ℕ) (tx : Option TxSeen) (looks heard : List Look) → Serves knows (old.txs a) → Goes means knows old a tx looks heard → Serves knows tx
unfolding Serves
served_after means knows old a tx looks heard was (stays same l) = subst (λ o. WithTx o (λ t. lacking knows.funs t.dones ≡ None) (Unit {0})) (sym same) was
served_after means knows old a tx looks heard was (closes none) = subst (λ o. WithTx o (λ t. lacking knows.funs t.dones ≡ None) (Unit {0})) (sym none) tt
served_after means knows old a tx looks heard was (opens fresh l) = subst (λ o. WithTx o (λ t. lacking knows.funs t.dones ≡ None) (Unit {0})) (sym fresh) refl
served_after means knows old a tx looks heard was (grows t r op v is answers more l) =
    subst (λ o. WithTx o (λ x. lacking knows.funs x.dones ≡ None) (Unit {0})) (sym more) (served_grown means knows t r op v answers (subst (λ o. WithTx o (λ x. lacking knows.funs x.dones ≡ None) (Unit {0})) is was))
served_after means knows old a tx looks heard was (adds t g action is known more l) =
    subst (λ o. WithTx o (λ x. lacking knows.funs x.dones ≡ None) (Unit {0})) (sym more) (subst (λ o. WithTx o (λ x. lacking knows.funs x.dones ≡ None) (Unit {0})) is was)
served_after means knows old a tx looks heard was (hears t r is same l) =
    subst (λ o. WithTx o (λ x. lacking knows.funs x.dones ≡ None) (Unit {0})) (sym same) (subst (λ o. WithTx o (λ x. lacking knows.funs x.dones ≡ None) (Unit {0})) is was)

-- ---- a step

module _ (means : Means) (accepts : Accepts) (knows : Known) (k l : Machine) (e : Event) (r : Reply) (step : IsStep means accepts knows k e r l) (lawful : IsLawful means k) (served : IsServed knows k.now) where
  a : ℕ
  a = e.actor

  did : Acted means accepts knows k.base (history k) k.now e.actor (k.looks e.actor) e.act r step.added l.now
  did = acted means accepts knows k.base (history k) k.now e.actor (k.looks e.actor) e.act r step.added l.now (lawful.world, lawful.point, lawful.lasts) step.acts

  longer : history l ≡ history k ++ step.added
  longer =
      ap (λ g. g ++ l.log) step.gone
      ∙ (append_assoc k.gone step.went l.log
      ∙ (ap (λ x. k.gone ++ x) (sym step.log)
      ∙ sym (append_assoc k.gone k.log step.added)))

  -- of each actor
  each : (P : ℕ → Type 0) → P e.actor → ((b : ℕ) → (b ≡ e.actor → ⊥) → P b) → (b : ℕ) → P b
  each P here others b = by (cases_eq b e.actor) where
    by : (b ≡ e.actor) ⊎ (b ≡ e.actor → ⊥) → P b
    by (inl same) = subst P (sym same) here
    by (inr other) = others b other

  open_other : (tx : Option TxSeen) → WithTx tx (IsOpen means k.now) (Unit {0}) → WithTx tx (IsOpen means l.now) (Unit {0})
  open_other None is = tt
  open_other (Some t) is = open_later means k.now l.now t did.later is

  opens_after : AreOpen means l.now
  opens_after = each (λ b. WithTx (l.now.txs b) (IsOpen means l.now) (Unit {0}))
      (opened means knows k.now l.now e.actor (l.now.txs e.actor) (k.looks e.actor) _ did.later (lawful.opens e.actor) did.goes)
      (λ b other. subst (λ o. WithTx o (IsOpen means l.now) (Unit {0})) (sym (did.others b other).0) (open_other (k.now.txs b) (lawful.opens b)))

  heard_all : (b : ℕ) → WithTx (l.now.txs b) (λ t. AllByRecursion (IsLook means t) (l.looks b)) (Unit {0})
  unfolding Heard
  heard_all = each (λ b. WithTx (l.now.txs b) (λ t. AllByRecursion (IsLook means t) (l.looks b)) (Unit {0}))
      (subst (λ ls. WithTx (l.now.txs e.actor) (λ t. AllByRecursion (IsLook means t) ls) (Unit {0})) (sym (ap (λ f. f e.actor) step.looks ∙ put_here k.looks e.actor _))
      (heard_after means knows k.now e.actor (l.now.txs e.actor) (k.looks e.actor) (looked means e.act r (k.now.txs e.actor) (k.looks e.actor)) (lawful.looks e.actor) did.goes))
      (λ b other. subst (λ ls. WithTx (l.now.txs b) (λ t. AllByRecursion (IsLook means t) ls) (Unit {0})) (sym (ap (λ f. f b) step.looks ∙ put_other k.looks e.actor _ b other))
      (subst (λ o. WithTx o (λ t. AllByRecursion (IsLook means t) (k.looks b)) (Unit {0})) (sym (did.others b other).0) (lawful.looks b)))

  lawful_after : IsLawful means l
  lawful_after = record {
    world = subst (λ b. IsWorld means (with_tally l.now.refs.tally b) (history l) l.now.refs l.now.atoms l.now.agents.unreleased) (sym step.base)
        (subst (λ h. IsWorld means (with_tally l.now.refs.tally k.base) h l.now.refs l.now.atoms l.now.agents.unreleased) (sym longer) did.world);
    point =
        let count = length-append (history k) step.added in
        let here : l.now.point ≡ point_after k.base (history k ++ step.added) = omega (arith, did.point, lawful.point, count) in
        here ∙ (ap (point_after k.base) (sym longer) ∙ ap (λ b. point_after b (history l)) (sym step.base));
    lasts = did.count;
    share = did.parts ∙ lawful.share;
    opens = opens_after;
    looks = heard_all;
    jobs = did.jobs lawful.jobs;
    carried = did.carried (lawful.opens e.actor, lawful.jobs, lawful.carried);
  }

  served_after_all : IsServed knows l.now
  unfolding Serves
  served_after_all = (
    did.refs_known served.0,
    did.atoms_known served.1,
    did.agents_known served.2,
    each (λ b. WithTx (l.now.txs b) (λ t. lacking knows.funs t.dones ≡ None) (Unit {0}))
        (served_after means knows k.now e.actor (l.now.txs e.actor) (k.looks e.actor) _ (served.3 e.actor) did.goes)
        (λ b other. subst (λ o. WithTx o (λ t. lacking knows.funs t.dones ≡ None) (Unit {0})) (sym (did.others b other).0) (served.3 b)),
  )

  true_isnt_false : true ≡ false → ⊥
  true_isnt_false is = cc

  no_folds : (o : Option ℕ) (reply : Reply) (went : List Entry) → Folds means knows k.now.point (point_after k.base k.gone) (replay means k.base k.gone) k.log o reply went → is_refused reply ≡ true → went ≡ []
  no_folds None reply went folds is = folds
  no_folds (Some p) reply went folds is = by folds.0 folds.1 folds.4 where
    by : (told : Result ℕ CheckpointFault) → reply ≡ replies.Checkpoint told → OnErr told (went ≡ []) → went ≡ []
    by (Ok n) same err = absurd (true_isnt_false (sym is ∙ ap is_refused same))
    by (Err f) same err = err

  heard_at : (t : TxSeen) (q : ℕ) (v : Edn) (before after : List Look) → after ≡ look_at means t q ∷ before → inner_value means t q ≡ Some v → after ≡ record { r = q; after = length t.dones; value = Some v } ∷ before
  heard_at t q v before after is has = is ∙ ap (λ o. (record { r = q; after = length t.dones; value = o }) ∷ before) has

  heard_of : (act : Act) (reply : Reply) (tx : Option TxSeen) (before after : List Look) → after ≡ looked means act reply tx before → IsTold means accepts k.now tx act reply → IsHeard accepts tx act reply before after
  heard_of (acts.Deref q) (replies.Deref (Ok v)) None before after is told = told
  heard_of (acts.Deref q) (replies.Deref (Ok v)) (Some t) before after is told = heard_at t q v before after is told
  heard_of (acts.Require q rule) (replies.Require (Ok u)) None before after is told = told
  heard_of (acts.Require q rule) (replies.Require (Ok u)) (Some t) before after is told = (told.0, told.2, heard_at t q told.0 before after is told.1)
  heard_of (acts.Require q rule) (replies.Require (Err txs.NotMet)) None before after is told = told
  heard_of (acts.Require q rule) (replies.Require (Err txs.NotMet)) (Some t) before after is told = (told.0, told.2, heard_at t q told.0 before after is told.1)
  heard_of (acts.Deref q) reply None before after is told = ([], is)
  heard_of (acts.Deref q) reply (Some t) before after is told = (look_at means t q ∷ [], is)
  heard_of (acts.Require q rule) reply None before after is told = ([], is)
  heard_of (acts.Require q rule) reply (Some t) before after is told = (look_at means t q ∷ [], is)
  heard_of acts.Begin (replies.Begin told) tx before after is none = is
  heard_of act reply tx before after is told = ([], is)

  laws : HasLaws means accepts k e r l
  laws = record {
    native = did.native served (lawful.opens e.actor);
    told = did.told;
    opens = opens_after;
    begun = did.began;
    kept = (left means accepts knows k.now e.actor e.act r step.added l.now step.acts).0;
    held = (left means accepts knows k.now e.actor e.act r step.added l.now step.acts).1;
    placed = did.placed (lawful.opens e.actor) (lawful.looks e.actor);
    replayed = lawful_after.world.replayed;
    base = step.base;
    later = longer ∙ ap (λ x. history k ++ x) did.adds_all;
    counted = did.counted ∙ ap (with_all_counted k.now.refs.tally k.now.point k.now.share) did.adds_all;
    jobs = did.jobs lawful.jobs;
    handled = did.handled lawful.jobs;
    given = did.given (lawful.opens e.actor, lawful.jobs, lawful.carried);
    queues = did.queues (lawful.opens e.actor, lawful.jobs, lawful.carried);
    carrying = did.carrying (lawful.opens e.actor, lawful.jobs, lawful.carried);
    refused = λ is.
        let none = no_folds (checkpoint_of e.act) r step.went step.folds is in (
          (did.refused is).1,
          step.gone ∙ (ap (λ w. k.gone ++ w) none ∙ append-nil k.gone),
          ap (λ w. w ++ l.log) (sym none) ∙ (sym step.log ∙ (ap (λ x. k.log ++ x) (did.refused is).0 ∙ append-nil k.log)),
        );
    heard = heard_of e.act r (k.now.txs e.actor) (k.looks e.actor) (l.looks e.actor) (ap (λ f. f e.actor) step.looks ∙ put_here k.looks e.actor _) did.told;
    others = λ b other. ((did.others b other).0, ap (λ f. f b) step.looks ∙ put_other k.looks e.actor _ b other, (did.others b other).1);
  }

-- ---- steps and runs

pub steps_have_laws : (means : Means) (accepts : Accepts) → StepsHaveLaws means accepts
steps_have_laws means accepts knows k l e r lawful served step = (laws means accepts knows k l e r step lawful served, lawful_after means accepts knows k l e r step lawful served, served_after_all means accepts knows k l e r step lawful served)

pub runs_have_laws : (means : Means) (accepts : Accepts) → RunsHaveLaws means accepts
runs_have_laws means accepts knows first last [] [] lawful served run = (tt, subst (IsLawful means) (sym run) lawful, subst (λ (m : Machine). IsServed knows m.now) (sym run) served)
runs_have_laws means accepts knows first last (e ∷ es) (r ∷ rs) lawful served (l, step, run) =
    let here = steps_have_laws means accepts knows first l e r lawful served step in
    let rest = runs_have_laws means accepts knows l last es rs here.1 here.2 run in
    ((here.0, rest.0), rest.1, rest.2)
runs_have_laws means accepts knows first last [] (r ∷ rs) lawful served run = absurd run
runs_have_laws means accepts knows first last (e ∷ es) [] lawful served run = absurd run

-- ---- what the type of a world with its actors keeps

base_named : (t : Option ℕ) (base : Base) → base.tally ≡ t → with_tally t base ≡ base
base_named t base is = subst (λ x. with_tally x base ≡ base) is refl

module _ (means : Means) (accepts : Accepts) (knows : Known) (base : Base) (log : List Entry) (old new : Present) (a : ℕ) (act : Act) (reply : Reply) (added : List Entry) (world : IsWorld means base log old.refs old.atoms old.agents.unreleased) (point : old.point ≡ point_after base log) (count : length old.refs.lasts ≡ length old.refs.values) (acts : Acts means accepts knows old a act reply added new) where
  named : IsWorld means (with_tally old.refs.tally base) log old.refs old.atoms old.agents.unreleased
  named = subst (λ x. IsWorld means x log old.refs old.atoms old.agents.unreleased) (sym (base_named old.refs.tally base world.tally)) world

  done : Acted means accepts knows base log old a [] act reply added new
  done = acted means accepts knows base log old a [] act reply added new (named, point, count) acts

  pub opens_kept : AreOpen means old → AreOpen means new
  opens_kept before b = by (cases_eq b a) where
    others : (o : Option TxSeen) → WithTx o (IsOpen means old) (Unit {0}) → WithTx o (IsOpen means new) (Unit {0})
    others None is = tt
    others (Some t) is = open_later means old new t done.later is

    by : (b ≡ a) ⊎ (b ≡ a → ⊥) → WithTx (new.txs b) (IsOpen means new) (Unit {0})
    by (inl same) = subst (λ n. WithTx (new.txs n) (IsOpen means new) (Unit {0})) (sym same) (opened means knows old new a (new.txs a) [] _ done.later (before a) done.goes)
    by (inr other) = subst (λ o. WithTx o (IsOpen means new) (Unit {0})) (sym (done.others b other).0) (others (old.txs b) (before b))

  pub jobs_kept : AreJobs means old → AreJobs means new
  jobs_kept = done.jobs

  pub carried_kept : AreOpen means old → AreJobs means old → AreCarried old.agents.agents → AreCarried new.agents.agents
  carried_kept before jobs carried = done.carried (before a, jobs, carried)

  pub served_kept : IsServed knows old → IsServed knows new
  unfolding Serves
  served_kept is = (done.refs_known is.0, done.atoms_known is.1, done.agents_known is.2, λ b. by b (cases_eq b a)) where
    by : (b : ℕ) → (b ≡ a) ⊎ (b ≡ a → ⊥) → WithTx (new.txs b) (λ t. lacking knows.funs t.dones ≡ None) (Unit {0})
    by b (inl same) = subst (λ n. WithTx (new.txs n) (λ t. lacking knows.funs t.dones ≡ None) (Unit {0})) (sym same) (served_after means knows old a (new.txs a) [] _ (is.3 a) done.goes)
    by b (inr other) = subst (λ o. WithTx o (λ t. lacking knows.funs t.dones ≡ None) (Unit {0})) (sym (done.others b other).0) (is.3 b)

  pub parts_kept : new.share.parts ≡ old.share.parts
  parts_kept = done.parts

nothing_heard : (means : Means) (o : Option TxSeen) → WithTx o (λ t. AllByRecursion (IsLook means t) []) (Unit {0})
nothing_heard means None = tt
nothing_heard means (Some t) = tt

pub lawful_first : (means : Means) (m : Machine) → m.gone ≡ [] → IsWorld means m.base m.log m.now.refs m.now.atoms m.now.agents.unreleased → m.now.point ≡ point_after m.base m.log → length m.now.refs.lasts ≡ length m.now.refs.values → m.now.share.parts ≡ all_parts
    → AreOpen means m.now → AreJobs means m.now → AreCarried m.now.agents.agents → ((a : ℕ) → m.looks a ≡ []) → IsLawful means m
lawful_first means m none world point count share before jobs carried silent =
    let all : history m ≡ m.log = ap (λ g. g ++ m.log) none in
    record {
      world = subst (λ x. IsWorld means x (history m) m.now.refs m.now.atoms m.now.agents.unreleased) (sym (base_named m.now.refs.tally m.base world.tally))
          (subst (λ h. IsWorld means m.base h m.now.refs m.now.atoms m.now.agents.unreleased) (sym all) world);
      point = point ∙ ap (point_after m.base) (sym all);
      lasts = count;
      share = share;
      opens = before;
      looks = λ a. subst (λ ls. WithTx (m.now.txs a) (λ t. AllByRecursion (IsLook means t) ls) (Unit {0})) (sym (silent a)) (nothing_heard means (m.now.txs a));
      jobs = jobs;
      carried = carried;
    }
