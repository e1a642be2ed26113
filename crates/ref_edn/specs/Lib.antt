-- To be read and believed: Bytes, Grammar, Printed, Faults, Streams; and, of ref_value, Edn (values), Lawful, Names, Letters, Order,
-- Collections, View, Texts.
-- What the reader returns, fault by fault, is defined in Reading, ReadTokens and ReadParts; Grammar doesn't depend on it.
-- The others are for private functions and proofs: Fronts, SortKeys, Sorting, Marks.
pub mod SortKeys
pub mod Bytes
pub mod Grammar
pub mod Printed
pub mod Faults
pub mod Fronts
pub mod ReadTokens
pub mod Reading
pub mod Streams
pub mod Sorting
pub mod ReadParts
pub mod Marks
pub use Rattle.ref_value.specs.Edn
pub use Rattle.ref_value.specs.Code
pub use Rattle.ref_value.specs.View
pub use Rattle.ref_value.specs.Texts
pub use Rattle.ref_value.specs.Most
pub use Rattle.ref_value.specs.Falls
pub use Rattle.ref_value.specs.Order
pub use Rattle.ref_value.specs.OrderLaws
pub use Rattle.ref_value.specs.Names
pub use Rattle.ref_value.specs.Lawful
pub use Rattle.ref_value.specs.Collections
pub use Rattle.ref_value.specs.Deepest
pub use Rattle.ref_value.specs.Members
pub use Rattle.ref_value.specs.Chunks
pub use Rattle.ref_value.specs.Trees
pub use Rattle.ref_value.specs.TreeCode
pub use Rattle.ref_value.specs.Moves
pub use Rattle.ref_value.specs.Sides
pub use Rattle.ref_value.specs.TreeFalls
