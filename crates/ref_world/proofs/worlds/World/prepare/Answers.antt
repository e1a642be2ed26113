use Rattle.std.proofs.Common.{◌≡◌, ◌∙◌, ◌+◌, IfOk, length, ap, sym}
use Rattle.ref_log.specs.Replay.{point_after}
use Rattle.ref_log.specs.Told.{TellsOrMemory}
use Rattle.ref_refs.specs.Commit as refs
use Rattle.ref_refs.specs.Conflicts.{refusal-fits, told-fits}
use Rattle.ref_refs.specs.Ready.{CanInstall}
use Rattle.ref_refs.specs.declared.faults.CommitFault.TheVariants.{Memory}
use Rattle.ref_world.specs.Seen.{WorldSeen}
use Rattle.ref_world.specs.World.{point_of, room}
use Rattle.ref_world.proofs.Refusals.{conflict_told, same_at}
use Rattle.ref_world.proofs.worlds.World.prepare.Goals as goal

pub returns-clause-refused : goal.returns-clause-refused
returns-clause-refused g c =
    let w = c.self.inside in
    let knows = g.F.Functions.knows c.args.funs.now in
    let tx = c.args.tx.now in
    let at : c.point-at.result ≡ point_after w.base.value w.log = c.point-at.ensures.value ∙ ap point_of (sym c.self.view_is) in
    let agents : c.len-agents.result ≡ length w.agents.agents = c.len-agents.ensures.value in
    let added : c.room-most_added.result ≡ room w.books.added = c.room-most_added.ensures ∙ ap room (c.added.ensures.value ∙ ap (λ (x : WorldSeen). x.books.added) (sym c.self.view_is)) in
    let taken : c.room-most_taken.result ≡ room w.books.taken = c.room-most_taken.ensures ∙ ap room (c.taken.ensures.value ∙ ap (λ (x : WorldSeen). x.books.taken) (sym c.self.view_is)) in
    rw (← c.self.view_is) (same_at (λ p n a t. TellsOrMemory Memory (refs.early_refusal knows w.refs (p + 1) n tx) (refs.commit_refusal g.M.Meaning.means g.M.Meaning.accepts knows w.refs (p + 1) n a t tx) c.prepare.result) at agents added taken c.prepare.ensures.refused)

pub returns-clause-conflict : goal.returns-clause-conflict
returns-clause-conflict g c =
    let refusal = refusal-fits c.args.tx.now g.M.Meaning.means g.M.Meaning.accepts (g.F.Functions.knows c.args.funs.now) c.self.inside.refs (c.point-at.result + 1) c.len-agents.result c.room-most_added.result c.room-most_taken.result in
    rw (← c.self.view_is) (conflict_told c.args.tx.now _ _ _ c.prepare.result c.prepare.ensures.refused (λ fault tells. told-fits c.args.tx.now _ _ _ fault tells refusal))

pub returns-clause-ready : goal.returns-clause-ready
returns-clause-ready g c =
    let w = c.self.inside in
    let tx = c.args.tx.now in
    let at : c.point-at.result ≡ point_after w.base.value w.log = c.point-at.ensures.value ∙ ap point_of (sym c.self.view_is) in
    let agents : c.len-agents.result ≡ length w.agents.agents = c.len-agents.ensures.value in
    let added : c.room-most_added.result ≡ room w.books.added = c.room-most_added.ensures ∙ ap room (c.added.ensures.value ∙ ap (λ (x : WorldSeen). x.books.added) (sym c.self.view_is)) in
    let taken : c.room-most_taken.result ≡ room w.books.taken = c.room-most_taken.ensures ∙ ap room (c.taken.ensures.value ∙ ap (λ (x : WorldSeen). x.books.taken) (sym c.self.view_is)) in
    rw (← c.self.view_is) (same_at (λ p n a t. IfOk c.prepare.result (CanInstall g.M.Meaning.means g.M.Meaning.accepts w.refs (p + 1) a t c.args.stamp tx)) at agents added taken c.prepare.ensures.ready)
