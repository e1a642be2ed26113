-- To be read and believed: Edn (values), Limits, Lawful, Names, Letters, Order, Collections, View, Texts.
-- OrderLaws, AscendLaws and SortedLists are proved laws. The others are for private functions and proofs: Code, Most, Falls and, for
-- the tree of members, Deepest, Members, Chunks, Trees, TreeCode, TreeFalls, Moves, Sides.
pub mod Edn
pub mod Limits
pub mod Code
pub mod View
pub mod Texts
pub mod Most
pub mod Falls
pub mod Order
pub mod OrderLaws
pub mod Names
pub mod Lawful
pub mod Collections
pub mod Deepest
pub mod Members
pub mod Chunks
pub mod Trees
pub mod TreeCode
pub mod Moves
pub mod Sides
pub mod TreeFalls
pub mod AscendLaws
pub mod Letters
pub mod SortedLists
