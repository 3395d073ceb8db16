pub mod LoadedBack
pub mod StockedShelf
pub mod WrittenItems
