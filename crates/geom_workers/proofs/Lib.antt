mod Agreeing
mod Drawing
mod Keyed
mod Placing
