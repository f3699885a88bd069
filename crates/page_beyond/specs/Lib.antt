-- What stands beyond both documents.
pub mod Beyond
