-- Document 02 on one page.
pub mod Document02
