pub mod Laws
pub mod SameFirst
