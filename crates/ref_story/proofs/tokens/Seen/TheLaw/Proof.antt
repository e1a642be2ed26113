-- A `&` to a `Seen` holds what it knows, which can be had twice. Assumes `Logic`.
use base.Logic.{snd∗}
use base.Before.{before}
use types.Logic.{sem}
use denote.RattleType.{RattleType}
use denote.Param.Laws.{Laws}
use denote.Param.Shared.{copy_shared}
use denote.Struct.Laws.{field_copy}
use denote.Struct.Lending.{of_Lends}
use Rattle.std.specs.contracts.marker.PhantomData as marker
use Rattle.ref_story.specs.Kept.{reached}
use Rattle.ref_story.specs.contracts.tokens.Seen as C
use Rattle.ref_story.proofs.Fields.{lends_twice, reached_twice}
use Rattle.ref_story.proofs.tokens.Seen.TheLaw.Statement.{statement}

pub shares : (E : RattleType) (L : Laws E) → statement E L
shares E L =
    of_Lends (C.struct E) (C.the_codes E.Denot E.coded (marker.the_row E).coded) (C.the_heap E) (C.the_lent E)
    (λ d p. record { contraction = λ M 𝓤 𝓛 κ. reached_twice E.coded.code 𝓛 d.name d.log; mono = λ M 𝓤 𝓛 κ' κ. snd∗ 𝓤 (sem 𝓛 (before κ' κ)) (sem 𝓛 (reached E.coded.code d.name d.log)) })
    (copy_shared (marker.the_field E) (field_copy (marker.the_type E) tt), tt)
    (λ M 𝓤 𝓛 d p. lends_twice 𝓛 (reached E.coded.code d.name d.log) (reached_twice E.coded.code 𝓛 d.name d.log) (C.the_row E).lives)
