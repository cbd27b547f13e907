pub mod RunsApart
pub mod Beginning
