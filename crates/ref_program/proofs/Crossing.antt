-- What of a run crosses threads. A search compares its goal with each fact that it is given, so it is given no more than it needs.
use denote.RattleType.{RattleType}
use denote.Ref.{NamedLft}
use denote.Param.Send.{IsSend, IsSync, sendable}
use denote.Param.SendFields.{declared_send, declared_sync, variants_send}
use Rattle.std.proofs.Crossing as std
use Rattle.ref_fun.specs.declared.meanings.Meaning as Meaning
use Rattle.ref_shared.proofs.Crossing.{shared_sync}
use Rattle.ref_world.proofs.Crossing.{share_send}
use Rattle.ref_world.specs.declared.names.Books as Books
use Rattle.ref_program.specs.contracts.faults.Fault as Fault
use Rattle.ref_program.specs.contracts.running.Hall as Hall
use Rattle.ref_program.specs.contracts.running.Left as Left

ruleset plain = (std.crosses, sendable)

pub fault_send : IsSend Fault.the_row
fault_send = variants_send Fault.enum (tt, ((search plain depth 60, tt), ((search plain depth 60, tt), ((search plain depth 60, (search plain depth 60, tt)), ((search plain depth 60, tt), ((search plain depth 60, tt), ((search plain depth 60, tt), (tt, ((search plain depth 60, tt), ((search plain depth 60, (search plain depth 60, tt)), ((search plain depth 60, tt), ((search plain depth 60, tt), ((search plain depth 60, tt), ((search plain depth 60, tt), ((search plain depth 60, tt), ((search plain depth 60, tt), ((search plain depth 60, tt), ((search plain depth 60, tt), ((search plain depth 60, tt), (tt, (tt, (tt, ((search plain depth 60, tt), tt)))))))))))))))))))))))

module _ (L S : RattleType) (gL : Books.Ghosts L.Denot) where
  pub left_send : IsSend S → IsSend (Left.the_row L S gL)
  left_send y = declared_send (Left.the_type L S gL) (search (share_send, plain) depth 60, (search (y, plain) depth 60, tt))

module _ (κ : NamedLft) (P M F L : RattleType) (gM : Meaning.Ghosts M.Denot) (gL : Books.Ghosts L.Denot) where
  pub hall_sync : IsSync P → IsSync F → IsSync (Hall.the_row κ P M F L gM gL)
  hall_sync p f = declared_sync (Hall.the_type κ P M F L gM gL) (
    search plain depth 60,
    (
      search (p, plain) depth 60,
      (
        search (f, plain) depth 60,
        (search plain depth 60, (search (shared_sync, plain) depth 60, tt)),
      ),
    ),
  )
