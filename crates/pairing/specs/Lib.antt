-- The pair program's line (document 01, 'Cases'), from the bytes of both files.
pub mod Verdict
pub mod Answer
pub mod Line
pub mod AllHeld
