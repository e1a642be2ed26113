use Rattle.std.proofs.Common.{◌≡◌, ◌∙◌, ◌≤◌, ◌+◌, ◌-◌, ◌^◌, suc, drop, false, ap, arith, length, slice_set, sym, refl}
use Rattle.std.proofs.lemmas.Option.{slice_get_within}
use Rattle.ref_agents.specs.Account.{AccountSeen, has_carried, last_released, released, with_released}
use Rattle.ref_agents.specs.declared.accounts.Queued.{Queued}
use Rattle.ref_agents.specs.declared.accounts.SentBy.{SentBy}
use Rattle.ref_agents.specs.declared.accounts.SentBy.TheVariants.{Outside}
use Rattle.ref_agents.proofs.Placed.{none_placed, place_there, placed_released, read_there, released_outside}
use Rattle.ref_agents.proofs.Released.{account_is, found_last, none_released}
use Rattle.ref_agents.proofs.accounts.Account.release.Goals as goal

pub returns-in_default : goal.returns-in_default
returns-in_default c =
    let g = c.args.g in
    let inside = c.self.inside in
    let now = c.args.self.now in
    let queue = inside.queue.items in
    let fits : inside.ended + length queue ≤ 2 ^ 64 = omega (arith, c.self.invariant.1, inside.queue.ok.0, inside.queue.small.0, inside.queue.small.1) in
    let none : has_carried g queue ≡ false = none_placed queue inside.ended (2 ^ 64) inside.carried g 0 c.self.invariant.2 fits (λ n from below. c.in_default.ensures.none refl n below) in
    account_is now (with_released g now) refl refl refl (sym (none_released g now.queue (ap (λ (a : AccountSeen). has_carried g a.queue) (sym c.self.view_is) ∙ none)))

pub index_mut-requires : goal.index_mut-requires
index_mut-requires c =
    let inside = c.self.inside in
    let there = place_there inside.queue.items inside.ended inside.carried c.args.g c.in-Some.place c.self.invariant.2 c.in-Some.ensures.here in
    let here = slice_get_within inside.queue.items (c.in-Some.place - inside.ended) there.queued there.here in
    omega (arith, here, inside.queue.ok.0)

pub invariant_of-self : goal.invariant_of-self
invariant_of-self c =
    let g = c.args.g in
    let inside = c.self.inside in
    let queue = inside.queue.items in
    let place = c.in-Some.place in
    let x = c.index_mut.result.now in
    let there = place_there queue inside.ended inside.carried g place c.self.invariant.2 c.in-Some.ensures.here in
    let read = read_there queue inside.ended g place x there c.index_mut.ensures.value in
    let y : Queued = record { action = x.action; by = Outside } in
    let at : place ≡ inside.ended + (place - inside.ended) = omega (arith, there.from) in (
      c.self.invariant.0,
      c.self.invariant.1,
      placed_released queue inside.ended inside.carried c.remove.new.self g (place - inside.ended) place x y at read.0 read.1 refl c.remove.ensures c.self.invariant.2,
    )

pub returns : goal.returns
returns c =
    let g = c.args.g in
    let inside = c.self.inside in
    let now = c.args.self.now in
    let queue = inside.queue.items in
    let place = c.in-Some.place in
    let i = place - inside.ended in
    let x = c.index_mut.result.now in
    let there = place_there queue inside.ended inside.carried g place c.self.invariant.2 c.in-Some.ensures.here in
    let read = read_there queue inside.ended g place x there c.index_mut.ensures.value in
    let fits : inside.ended + length queue ≤ 2 ^ 64 = omega (arith, c.self.invariant.1, inside.queue.ok.0, inside.queue.small.0, inside.queue.small.1) in
    let none : has_carried g (drop (suc i) queue) ≡ false =
    none_placed queue inside.ended (2 ^ 64) inside.carried g (suc i) c.self.invariant.2 fits (λ n from below. c.in-Some.ensures.last n (omega (arith, from, there.from)) below) in
    let here = slice_get_within queue i x read.0 in
    let free : Queued = record { action = x.action; by = Outside } in
    let same : free ≡ released g x = ap (λ (b : SentBy). record x { by = b }) (sym (released_outside g x.by read.1)) in
    account_is _ (with_released g now) (ap (λ (a : AccountSeen). a.start) c.self.view_is) (ap (λ (a : AccountSeen). a.past) c.self.view_is) (ap (λ (a : AccountSeen). a.handled) c.self.view_is)
    (ap (λ (q : Queued). slice_set queue i q) same ∙ found_last g queue i x here c.index_mut.ensures.value read.1 none ∙ ap (λ (a : AccountSeen). last_released g a.queue) c.self.view_is)
