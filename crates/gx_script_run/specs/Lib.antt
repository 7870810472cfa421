pub mod Scripting
pub mod Leaving
pub mod ScriptPiping
pub mod ScriptTexts
