pub mod KexecEntries
pub mod KexecPlaces
pub mod KexecNext
pub mod KexecAfter
pub mod KexecNumbers
pub mod KexecReplies
