pub mod Team
