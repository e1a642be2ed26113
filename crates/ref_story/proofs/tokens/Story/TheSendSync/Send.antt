use denote.RattleType.{RattleType}
use denote.Param.Send.{IsSend}
use Rattle.ref_story.specs.contracts.tokens.Story.{the_row}
use Rattle.ref_story.proofs.Fields.{whole_keyless}

pub send : (E : RattleType) → IsSend (the_row E)
send E = record { owned = λ d vs. ((λ vss. (tt, ((λ uss. (tt, tt)), tt))), whole_keyless E.coded.code d.name d.log); leaving = λ k f vs. tt }
