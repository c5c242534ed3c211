pub mod Certify
pub mod Propose
