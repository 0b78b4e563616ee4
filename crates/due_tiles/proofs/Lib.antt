mod Merging
mod Numbers
mod PieceLaws
mod Reading
mod Same
mod Splicing
