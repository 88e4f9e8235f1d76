pub mod AccountLemmas
pub mod AddressLemmas
pub mod ReclaimLemmas
pub mod OpeningLemmas
pub mod RoomLemmas
pub mod FrameLemmas
pub mod RecoverableLemmas
