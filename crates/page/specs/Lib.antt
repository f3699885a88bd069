-- Document 01 on one page.
pub mod Document01
