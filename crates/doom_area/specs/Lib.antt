pub mod DoomArea
