mod Running
mod Collecting
mod Crosses
