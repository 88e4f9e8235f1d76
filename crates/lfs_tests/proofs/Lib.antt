pub mod FreshStores
