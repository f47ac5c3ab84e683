pub mod LogTexts
pub mod Verified
pub mod Listed
