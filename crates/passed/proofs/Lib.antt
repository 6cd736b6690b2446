pub mod SevenLaws
