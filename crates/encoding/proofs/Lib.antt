pub mod ValueTests
