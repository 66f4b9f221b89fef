-- Definitions that serve the code alone.
pub mod Common
pub mod Tests
pub mod Typed
pub mod Table
pub mod Composite
pub mod Chain
pub mod Declares
pub mod Wide
pub mod Enqueue
pub mod Copy
