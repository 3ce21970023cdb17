-- 01, 'Register text and command text': what a line, a record, a register and a command are as text, and what each reader and
-- writer answers and leaves. A text is a list of bytes.
pub mod Word
pub mod Line
pub mod Lines
pub mod Records
pub mod RegisterReader
pub mod CommandReader
pub mod Writer
