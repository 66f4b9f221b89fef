mod Quieted
mod Texts
mod Worked
