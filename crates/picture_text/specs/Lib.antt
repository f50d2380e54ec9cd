pub mod Svg
