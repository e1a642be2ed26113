-- To be read and believed: Visible (which characters people are shown), Shown (how references, operations and sends are written), Places
-- (which entries are chosen), History, Values and Changes (the lines of each), Looks, Written (what is written of them), and Escaped
-- (text in a page).
pub mod Visible
pub mod Shown
pub mod Places
pub mod History
pub mod Values
pub mod Changes
pub mod Looks
pub mod Written
pub mod Escaped
