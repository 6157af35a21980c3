mod Reaching
