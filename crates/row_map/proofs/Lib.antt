mod Digits
mod Distinct
mod Joinable
mod Lists
mod Literals
mod TagTokens
